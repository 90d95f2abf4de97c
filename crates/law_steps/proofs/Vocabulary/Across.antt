-- A process that runs in a block which it entered beside its replay.
use Rattle.std.specs.Prelude.{◌≡◌, ℕ, suc, ◌+◌, ◌≤◌, true, false, List, ◌∷◌, ◌++◌, None}
use Rattle.ppd_ast.specs.declared.plan.Plan.{Plan}
use Rattle.ppd_ast.specs.declared.program.Program.{Program}
use Rattle.ppd_ast.specs.Lookups.{kind_of}
use Rattle.ppd_sem.specs.Blocks.{postlog_cells}
use Rattle.ppd_sem.specs.declared.proc.Frame.{Frame}
use Rattle.ppd_sem.specs.declared.proc.Need.TheVariants.{Enter}
use Rattle.ppd_sem.specs.declared.proc.Proc.{Proc}
use Rattle.ppd_sem.specs.declared.proc.Todo.{Todo}
use Rattle.ppd_sem.specs.Described.{ends_body}
use Rattle.ppd_sem.specs.Process.{cost, need_of}
use Rattle.ppd_sem.specs.declared.proc.Need.{Need}
use Rattle.law_steps.proofs.Vocabulary.Relation.{IsBeside}
use Rattle.law_steps.proofs.Vocabulary.Held.{Among, IsIn}
use Rattle.law_steps.specs.Beside.Opens.{opens}

-- with need n the replay r comes to a statement that opens a block: `before` is the process as it then was
pub record HasCome (program : Program) (plan : Plan) (used inside : ℕ → Type 0) (calls : Type 0) (closer : Todo)
    (home : ℕ) (depth : ℕ) (outside : List Todo) (n : Need) (r : Proc) : Type 0 where
  pub before : Proc
  pub beside : IsBeside program used inside calls closer home depth outside before r
  pub need_is : need_of program plan r ≡ n
  pub head : Todo
  pub later : List Todo
  pub head_is : r.todo ≡ head ∷ later
  pub goes_on : ends_body (kind_of program head.stmt) ≡ false
  pub unentered : head.entered ≡ false
  pub running : before.status ≡ None

-- in a loop that the replay r came to; `level` further blocks run in the loop
pub record IsInLoop (program : Program) (plan : Plan) (used inside : ℕ → Type 0) (calls : Type 0) (closer : Todo)
    (home : ℕ) (depth : ℕ) (outside : List Todo) (b u : ℕ) (statements : ℕ → Type 0) (r : Proc) (level : ℕ)
    (x : Proc) : Type 0 where
  pub came : HasCome program plan used inside calls closer home depth outside (Enter b u) r
  pub base : Frame
  pub below : List Frame
  pub top : came.before.frames ≡ base ∷ below
  pub within : IsIn program (Among (postlog_cells plan b)) statements (record came.head { entered = true }) base
      below (came.later ++ outside) x
  pub counted : opens program plan within.todo ≡ suc level
  pub whole : x.below ≡ 0
  pub budget : x.budget ≡ came.before.budget
  pub spent : came.before.spent + cost plan (Enter b u) ≤ x.spent
