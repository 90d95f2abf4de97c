-- Which blocks are open by what is still to do, the innermost first: entered loops, the functions of
-- the returns to come, and last the process's own.
use Rattle.std.specs.Prelude.{◌≡◌, ℕ, ◌+◌, ◌<◌, List, [], ◌∷◌, ◌++◌, length, option_to_list, is_some, Option, Some, None, if◌then◌else◌, unwrap_or}
use Rattle.ppd_ast.specs.Valid.{IsValid}
use Rattle.ppd_ast.specs.declared.plan.BlockKind.TheVariants as block
use Rattle.ppd_ast.specs.declared.plan.Plan.{Plan}
use Rattle.ppd_ast.specs.declared.plan.Policy.{Policy}
use Rattle.ppd_ast.specs.declared.program.Program.{Program}
use Rattle.ppd_ast.specs.declared.status.Status.{Status}
use Rattle.ppd_ast.specs.Lookups.{kind_of, body_of}
pub use Rattle.ppd_model.specs.Extents.{functions_in}
use Rattle.law_steps.specs.Blocks.{plan_of}
use Rattle.law_steps.specs.Course.{GoesUntilEnd, IsOnCourse}
use Rattle.ppd_sem.specs.declared.proc.Answer.{Answer}
use Rattle.ppd_sem.specs.declared.proc.Frame.{Frame}
use Rattle.ppd_sem.specs.declared.proc.Proc.{Proc}
use Rattle.ppd_sem.specs.declared.proc.Todo.{Todo}
use Rattle.ppd_sem.specs.Process.{act, loop_of, need_of, started}
use Rattle.ppd_sem.specs.Runs.{returns, bodies_in}
use Rattle.ppd_sem.specs.Tables.{block_of}
use Rattle.ppd_model.specs.Logs.{status_of}
use Rattle.ppd_model.specs.Marks.{Mark, opened, closed}

-- ---- what is open

-- the bodies that the returns to come leave, the next first
abbrev pub returning : Program → List Todo → List ℕ
returning program [] = []
returning program (t ∷ ts) =
    (if returns (kind_of program t.stmt) then body_of program t.stmt ∷ [] else []) ++ returning program ts

-- the block of a loop that is entered
abbrev pub entered_block : Program → Plan → Todo → List ℕ
entered_block program plan t = if t.entered then option_to_list (loop_of plan t.stmt (kind_of program t.stmt)) else []

-- the block of the function that a return leaves
abbrev pub returned_block : Program → Plan → Todo → List ℕ
returned_block program plan t =
    if returns (kind_of program t.stmt)
    then option_to_list (block_of plan (block.Function (body_of program t.stmt)))
    else []

-- the blocks that these statements close, the next first
abbrev pub open_blocks : Program → Plan → List Todo → List ℕ
open_blocks program plan [] = []
open_blocks program plan (t ∷ ts) =
    (entered_block program plan t ++ returned_block program plan t) ++ open_blocks program plan ts

-- the block of process p
abbrev pub process_block : Program → Plan → ℕ → ℕ
process_block program plan p = unwrap_or (block_of plan (block.Process (program.functions + p))) 0

-- all blocks in which process p runs, the innermost first
abbrev pub stack : Program → Plan → ℕ → Proc → List ℕ
stack program plan p s = open_blocks program plan s.todo ++ process_block program plan p ∷ []

-- ---- frames

-- the frames above the lowest that are of functions that are blocks
abbrev pub block_frames : Plan → List Frame → ℕ
block_frames plan [] = 0
block_frames plan (f ∷ []) = 0
block_frames plan (f ∷ g ∷ fs) =
    (if is_some (block_of plan (block.Function f.body)) then 1 else 0) + block_frames plan (g ∷ fs)

-- ---- the states of a process

-- the returns to come are those of the frames above the process's own, and what is to do lies along the
-- flow graph, until an end
pub record IsInOrder (program : Program) (plan : Plan) (p : ℕ) (s : Proc) : Type 0 where
  pub frames : bodies_in s.frames ≡ returning program s.todo ++ (program.functions + p) ∷ []
  pub course : IsOnCourse program plan s
  pub until_end : GoesUntilEnd program s

-- a step opens its block inside those that are open, or closes the innermost, which at an end is the last
abbrev pub Moves : (opens closes : Option Mark) → Option Status → (before after : List ℕ) → Type 0
Moves (Some m) c s before after = after ≡ m.block ∷ before
Moves None (Some m) (Some x) before after = before ≡ m.block ∷ []
Moves None (Some m) None before after = before ≡ m.block ∷ after
Moves None None s before after = before ≡ after

-- each process begins in order with its own block alone, and each step of a running one keeps the order and
-- opens and closes as it says; the functions that are open are those of the frames
pub record StepsMoveBlocks : Type 0 where
  pub starts : (program : Program) (plan : Plan) (p budget : ℕ) → IsValid program
      → program.functions + p < length program.bodies
      → IsInOrder program plan p (started program plan p budget)
  pub alone : (program : Program) (plan : Plan) (p budget : ℕ) → IsValid program
      → stack program plan p (started program plan p budget) ≡ process_block program plan p ∷ []
  pub stays : (program : Program) (plan : Plan) (p : ℕ) (s : Proc) (a : Answer) → IsValid program
      → IsInOrder program plan p s → IsInOrder program plan p (act program plan s a)
  pub moves : (program : Program) (plan : Plan) (p : ℕ) (s : Proc) (a : Answer) → IsValid program
      → IsInOrder program plan p s → s.status ≡ None
      → Moves (opened program plan s (need_of program plan s)) (closed program plan s (need_of program plan s))
      (status_of (need_of program plan s)) (stack program plan p s)
      (stack program plan p (act program plan s a))
  pub depth : (program : Program) (policy : Policy) (p : ℕ) (s : Proc) → IsValid program
      → program.functions + p < length program.bodies
      → IsInOrder program (plan_of program policy) p s
      → functions_in (plan_of program policy) (stack program (plan_of program policy) p s)
      ≡ block_frames (plan_of program policy) s.frames
