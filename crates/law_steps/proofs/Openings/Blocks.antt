-- A process and its replay in a block of the plan of a policy keep what an interval owes.
use Rattle.std.proofs.Common.{◌≡◌, ℕ, ◌+◌, ◌≤◌, List, ◌∷◌, length, Some, refl, ap, sym, subst, ◌∙◌}
use Rattle.std.specs.Prelude.{⊤, is_some, slice_get, unwrap_or}
use Rattle.std.specs.Option.{option_map_or}
use Rattle.ppd_ast.specs.declared.plan.BlockKind.{BlockKind}
use Rattle.ppd_ast.specs.declared.plan.BlockKind.TheVariants as block
use Rattle.ppd_ast.specs.declared.plan.Policy.{Policy}
use Rattle.ppd_ast.specs.declared.program.Body.{Body}
use Rattle.ppd_ast.specs.declared.program.Program.{Program}
use Rattle.ppd_ast.specs.Valid.{IsValid}
use Rattle.ppd_ast.specs.Lookups.{body_of, body_numbered, no_body}
use Rattle.ppd_ast.specs.declared.limits.TheConstants.{MOST_NESTING}
use Rattle.ppd_blocks.specs.Blocks.{plan_of, postlog_of}
use Rattle.ppd_sem.specs.Blocks.{block_body, block_todo}
use Rattle.ppd_sem.specs.declared.proc.Frame.{Frame}
use Rattle.ppd_sem.specs.declared.proc.Proc.{Proc}
use Rattle.ppd_sem.specs.declared.proc.Todo.{Todo}
use Rattle.ppd_sem.specs.Process.{todos}
use Rattle.ppd_sem.specs.Tables.{block_of}
use Rattle.law_steps.proofs.Course.Standing.{in_itself}
use Rattle.law_steps.proofs.Vocabulary.Alone.{IsKept}
use Rattle.law_steps.proofs.Vocabulary.Relation.{IsBlock, IsOwnTodo}
use Rattle.law_steps.proofs.Facts.Bodies.{EachCell, HasCall, IsOf, body_begins, body_block, body_closer, body_postlogs, body_writing, ender, function_closed, function_owned, process_closed, process_owned}
use Rattle.law_steps.proofs.Beside.Instance.{kept_by}
use Rattle.law_steps.proofs.Facts.Loops.{IsPrelogged, IsWithin, closer_of, loop_block_is, loop_closed, loop_owned, loop_postlogs, loop_writing, postlog_is}
use Rattle.law_steps.specs.OpenBlocks.Stack.{block_frames}
use Rattle.law_steps.proofs.Facts.Counted.{inside_body}
use Rattle.law_steps.proofs.Facts.State.{IsState, opening_counted}
use Rattle.law_steps.proofs.Facts.Within.{within_listed}
use Rattle.law_steps.proofs.Vocabulary.Held.{Among, IsWritingBlock}
use Rattle.law_steps.proofs.Facts.Placed.{has_ends}
use Rattle.ppd_ast.specs.declared.program.Stmt.{Stmt}

-- the local cells that a block of this kind uses
abbrev pub used_in : Program → BlockKind → ℕ → Type 0
used_in program (block.Function f) = EachCell
used_in program (block.Process f) = EachCell
used_in program (block.Loop q) = IsPrelogged program q

-- its statements
abbrev pub inside_in : Program → BlockKind → ℕ → Type 0
inside_in program (block.Function f) = IsOf program f
inside_in program (block.Process f) = IsOf program f
inside_in program (block.Loop q) = IsWithin program q

abbrev pub calls_in : Program → BlockKind → Type 0
calls_in program kind = HasCall program (inside_in program kind)

-- the last of what is to do in it
abbrev pub closer_in : Program → BlockKind → Todo
closer_in program (block.Function f) = ender (body_numbered program f).top
closer_in program (block.Process f) = ender (body_numbered program f).top
closer_in program (block.Loop q) = closer_of q

-- the body of a block that is one is there
abbrev pub IsBodyThere : Program → BlockKind → Type 0
IsBodyThere program (block.Function f) = (b : Body) × (slice_get program.bodies f ≡ Some b)
IsBodyThere program (block.Process f) = (b : Body) × (slice_get program.bodies f ≡ Some b) × (program.functions ≤ f)
IsBodyThere program (block.Loop q) = ⊤

module _ (program : Program) (policy : Policy) (v : IsValid program) where
  pub block_is : (kind : BlockKind) (b : ℕ) → block_of (plan_of program policy) kind ≡ Some b
      → IsBlock program (used_in program kind) (inside_in program kind) (calls_in program kind)
  block_is (block.Function f) b e = body_block program v f
  block_is (block.Process f) b e = body_block program v f
  block_is (block.Loop q) b e = loop_block_is program policy v q b e

  -- what is to do at its beginning are its statements, and last the one that closes it
  pub begins_own : (kind : BlockKind) → IsBodyThere program kind
      → IsOwnTodo (inside_in program kind) (closer_in program kind) (block_todo program kind)
  begins_own (block.Function f) at =
      subst (λ o. IsOwnTodo (IsOf program f) (ender (unwrap_or o no_body).top) (todos (unwrap_or o no_body).top)) (sym at.1)
      (body_begins program v f at.0 at.1)
  begins_own (block.Process f) at =
      subst (λ o. IsOwnTodo (IsOf program f) (ender (unwrap_or o no_body).top) (todos (unwrap_or o no_body).top)) (sym at.1)
      (body_begins program v f at.0 at.1)
  begins_own (block.Loop q) at = ((in_itself program q, tt), refl)

  pub block_kept : (kind : BlockKind) (b : ℕ) → block_of (plan_of program policy) kind ≡ Some b
      → IsBodyThere program kind → (depth : ℕ) (outside : List Todo)
      → IsKept program (plan_of program policy) (used_in program kind) (inside_in program kind)
      (calls_in program kind) (closer_in program kind) (block_body program kind) depth outside (λ s r. ⊤)
  block_kept (block.Function f) b e at depth outside =
      subst (λ o. IsKept program (plan_of program policy) EachCell (IsOf program f)
      (HasCall program (IsOf program f)) (ender (unwrap_or o no_body).top) f depth outside (λ s r. ⊤)) (sym at.1)
      (kept_by program (plan_of program policy) EachCell (IsOf program f) (HasCall program (IsOf program f))
      (ender at.0.top) f depth outside
      (has_ends program v) (body_block program v f)
      (function_owned program v f (plan_of program policy) (ender at.0.top) (body_closer program v f at.0 at.1)
      (ap is_some e) depth outside)
      (function_closed program v f (plan_of program policy) (ender at.0.top) (body_closer program v f at.0 at.1)
      (ap is_some e))
      (body_postlogs program v f (plan_of program policy)))
  block_kept (block.Process f) b e at depth outside =
      subst (λ o. IsKept program (plan_of program policy) EachCell (IsOf program f)
      (HasCall program (IsOf program f)) (ender (unwrap_or o no_body).top) f depth outside (λ s r. ⊤)) (sym at.1)
      (kept_by program (plan_of program policy) EachCell (IsOf program f) (HasCall program (IsOf program f))
      (ender at.0.top) f depth outside
      (has_ends program v) (body_block program v f)
      (process_owned program v f (plan_of program policy) (ender at.0.top) (body_closer program v f at.0 at.1)
      (ap is_some e) depth outside)
      (process_closed program v f (plan_of program policy) (ender at.0.top) (body_closer program v f at.0 at.1) at.2)
      (body_postlogs program v f (plan_of program policy)))
  block_kept (block.Loop q) b e at depth outside =
      kept_by program (plan_of program policy) (IsPrelogged program q) (IsWithin program q)
      (HasCall program (IsWithin program q)) (closer_of q) (block_body program (block.Loop q)) depth outside
      (has_ends program v) (loop_block_is program policy v q b e)
      (loop_owned program policy v q b e (block_body program (block.Loop q)) depth outside)
      (loop_closed program policy v q b e (block_body program (block.Loop q)))
      (λ s d. loop_postlogs program policy v q b e s d)

-- the statements of a block are of the body that its code stands in
pub inside_home : (program : Program) → IsValid program → (kind : BlockKind) (i : ℕ) → inside_in program kind i
    → body_of program i ≡ block_body program kind
inside_home program v (block.Function f) i h = ap (λ o. option_map_or (λ (x : Stmt). x.body) o 0) h.there ∙ h.body
inside_home program v (block.Process f) i h = ap (λ o. option_map_or (λ (x : Stmt). x.body) o 0) h.there ∙ h.body
inside_home program v (block.Loop q) i h =
    inside_body MOST_NESTING program q i (body_of program q) v refl (within_listed program q i v h)

-- so is the count of frames where one of the statements is a call
pub opening_frames : (program : Program) (policy : Policy) (s : Proc) (kind : BlockKind) (f : Frame)
    (fs : List Frame) → IsValid program → IsState program (plan_of program policy) s → s.frames ≡ f ∷ fs
    → f.body ≡ block_body program kind
    → calls_in program kind → length s.frames ≡ 1 + block_frames (plan_of program policy) s.frames
opening_frames program policy s kind f fs v h top is c =
    opening_counted program policy s (block_body program kind) (inside_in program kind) v h f fs top is
    (inside_home program v kind) c

-- what it leaves alone in the frame in which it begins
abbrev pub written_in : Program → BlockKind → ℕ → Type 0
written_in program (block.Function f) = EachCell
written_in program (block.Process f) = EachCell
written_in program (block.Loop q) = Among (postlog_of program (block.Loop q))

pub block_writing : (program : Program) (policy : Policy) → IsValid program → (kind : BlockKind) (b : ℕ)
    → block_of (plan_of program policy) kind ≡ Some b
    → IsWritingBlock program (written_in program kind) (inside_in program kind)
block_writing program policy v (block.Function f) b e = body_writing program v f
block_writing program policy v (block.Process f) b e = body_writing program v f
block_writing program policy v (block.Loop q) b e =
    subst (λ cs. IsWritingBlock program (Among cs) (IsWithin program q)) (postlog_is program policy v q b e)
    (loop_writing program policy v q b e)
