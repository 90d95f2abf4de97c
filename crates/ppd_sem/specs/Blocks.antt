-- Look-ups of a block in a plan, a process state that begins at a block, and one that goes past a block
-- without running it.
use Rattle.std.specs.Prelude.{ℕ, ℤ, Bool, true, false, List, [], ◌∷◌, drop, slice_get, None}
use Rattle.std.specs.Option.{option_map_or}
use Rattle.ppd_ast.specs.declared.plan.BlockKind.{BlockKind}
use Rattle.ppd_ast.specs.declared.plan.BlockKind.TheVariants as block
use Rattle.ppd_ast.specs.declared.plan.Plan.{Plan}
use Rattle.ppd_ast.specs.declared.plan.Start.TheVariants as start
use Rattle.ppd_ast.specs.declared.program.Program.{Program}
use Rattle.ppd_ast.specs.Lookups.{kind_of, body_of, body_numbered}
use Rattle.ppd_sem.specs.declared.proc.Frame.{Frame}
use Rattle.ppd_sem.specs.declared.proc.Need.{Need}
use Rattle.ppd_sem.specs.declared.proc.Need.TheVariants.{Enter}
use Rattle.ppd_sem.specs.declared.proc.Proc.{Proc}
use Rattle.ppd_sem.specs.declared.proc.Todo.{Todo}
use Rattle.ppd_sem.specs.Process.{charged, into_of, need_of, new_frame, receive_at, todos, on_top, with_values}
pub use Rattle.ppd_sem.specs.Tables.{prelog_cells, postlog_cells}
use Rattle.ppd_sem.specs.Tables.{unit_of}

-- ---- look-ups

-- what block b of the plan is the code of
abbrev pub block_kind : Plan → ℕ → BlockKind
block_kind plan b = option_map_or (λ x. x.kind) (slice_get plan.blocks b) (block.Process 0)

-- the block is a function's body
abbrev pub is_function : BlockKind → Bool
is_function (block.Function f) = true
is_function kind = false

-- ---- at a block

-- the body that the block's code stands in
abbrev pub block_body : Program → BlockKind → ℕ
block_body program (block.Function f) = f
block_body program (block.Process b) = b
block_body program (block.Loop s) = body_of program s

-- what is to do in the block: its body's statements, or the loop, which is entered
abbrev pub block_todo : Program → BlockKind → List Todo
block_todo program (block.Loop s) = record { stmt = s; entered = true; offered = false } ∷ []
block_todo program kind = todos (body_numbered program (block_body program kind)).top

-- the unit of the block's own start
abbrev pub block_unit : Plan → BlockKind → ℕ
block_unit plan (block.Function f) = unit_of plan (start.Entry f)
block_unit plan (block.Process b) = unit_of plan (start.Entry b)
block_unit plan (block.Loop s) = unit_of plan (start.Enter s)

-- a process state at block b with these values of its prelog, while so many calls are open
abbrev pub at_block : Program → Plan → ℕ → List ℤ → ℕ → ℕ → Proc
at_block program plan b values depth budget =
    let kind = block_kind plan b in
    let frame = new_frame program (block_body program kind) [] None in
    record {
      frames = record frame { cells = with_values (prelog_cells plan b) values frame.cells } ∷ [];
      todo = block_todo program kind;
      answers = [];
      below = depth;
      budget = budget;
      spent = 0;
      steps = 0;
      prints = [];
      status = None;
    }

-- ---- past a block

-- the statement of the head
abbrev pub head_stmt : List Todo → ℕ
head_stmt [] = 0
head_stmt (t ∷ ts) = t.stmt

-- the frames after a loop, whose postlog has local cells, or after a call, whose postlog has the
-- value that it returned, if any
abbrev pub frames_past : Program → Plan → List ℤ → Need → Proc → List Frame
frames_past program plan values (Enter b u) s = on_top (with_values (postlog_cells plan b) values) s.frames
frames_past program plan values need s =
    receive_at (into_of (kind_of program (head_stmt s.todo))) (slice_get values 0) s.frames

-- the unit that starts after a loop or a call
abbrev pub unit_past : Plan → List Todo → Need → ℕ
unit_past plan todo (Enter b u) = unit_of plan (start.Exit (head_stmt todo))
unit_past plan todo need = unit_of plan (start.After (head_stmt todo))

-- the state past the block that the head would enter, with these values of its postlog: one step
-- more, which costs what entering it costs
abbrev pub skipped : Program → Plan → List ℤ → Proc → Proc
skipped program plan values s =
    let need = need_of program plan s in
    charged plan need (record s { frames = frames_past program plan values need s; todo = drop 1 s.todo; answers = [] })
