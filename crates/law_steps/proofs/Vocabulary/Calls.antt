-- A process that runs in a function that is a block, which it called beside its replay.
use Rattle.std.specs.Prelude.{◌≡◌, ℕ, zero, suc, ◌+◌, ◌≤◌, ⊤, true, false, length, List, ◌++◌, Some}
use Rattle.ppd_ast.specs.declared.plan.BlockKind.TheVariants as block
use Rattle.ppd_ast.specs.declared.plan.Plan.{Plan}
use Rattle.ppd_ast.specs.declared.program.Program.{Program}
use Rattle.ppd_ast.specs.Lookups.{kind_of, body_numbered}
use Rattle.ppd_sem.specs.declared.proc.Frame.{Frame}
use Rattle.ppd_sem.specs.declared.proc.Need.TheVariants.{Invoke}
use Rattle.ppd_sem.specs.declared.proc.Proc.{Proc}
use Rattle.ppd_sem.specs.declared.proc.Todo.{Todo}
use Rattle.ppd_sem.specs.Described.{ends_body}
use Rattle.ppd_sem.specs.Process.{cost, todos}
use Rattle.ppd_sem.specs.Tables.{block_of}
use Rattle.law_steps.proofs.Vocabulary.Relation.{IsEnd, IsOwnTodo, past_body}
use Rattle.law_steps.proofs.Vocabulary.Held.{IsIn, IsWritingBlock}
use Rattle.law_steps.specs.Beside.Opens.{open_at, opens}
use Rattle.law_steps.proofs.Vocabulary.Across.{HasCome}

-- what is to do after the bodies of the first n frames
abbrev pub past_all : Program → ℕ → List Todo → List Todo
past_all program zero todo = todo
past_all program (suc n) todo = past_all program n (past_body program todo)

-- past the bodies of all frames but the last k this is to do
pub record IsPastFrames (program : Program) (k : ℕ) (rest : List Todo) (x : Proc) : Type 0 where
  pub more : ℕ
  pub frames : length x.frames ≡ suc more + k
  pub past : past_all program more (past_body program x.todo) ≡ rest

-- the statements of a function that is a block
pub record IsCallBlock (program : Program) (statements : ℕ → Type 0) : Type 0 where
  pub writing : IsWritingBlock program (λ c. ⊤) statements
  pub no_end : (s : ℕ) → statements s → IsEnd (kind_of program s) → ⊥

pub record IsInCall (program : Program) (plan : Plan) (used inside : ℕ → Type 0) (calls : Type 0) (closer : Todo)
    (home : ℕ) (depth : ℕ) (outside : List Todo) (b u : ℕ) (statements : ℕ → Type 0) (r : Proc) (level : ℕ)
    (x : Proc) : Type 0 where
  pub came : HasCome program plan used inside calls closer home depth outside (Invoke (Some b) u) r
  pub base : Frame
  pub call : base.call ≡ Some came.head.stmt
  pub block_is : block_of plan (block.Function base.body) ≡ Some b
  pub last : Todo
  pub ends : ends_body (kind_of program last.stmt) ≡ true
  pub last_is : last.entered ≡ false
  pub counts : 1 ≤ open_at program plan last
  pub within : IsIn program (λ c. ⊤) statements last base came.before.frames (came.later ++ outside) x
  pub over : IsPastFrames program (length came.before.frames) (came.later ++ outside) x
  pub counted : opens program plan within.todo ≡ suc level
  pub whole : x.below ≡ 0
  pub budget : x.budget ≡ came.before.budget
  pub spent : came.before.spent + cost plan (Invoke (Some b) u) ≤ x.spent

-- the body of a function that is a block: its statements, and last the one that closes it
pub record IsCallBody (program : Program) (plan : Plan) (statements : ℕ → Type 0) (f : ℕ) : Type 0 where
  pub last : Todo
  pub own : IsOwnTodo statements last (todos (body_numbered program f).top)
  pub ends : ends_body (kind_of program last.stmt) ≡ true
  pub last_is : last.entered ≡ false
  pub counts : 1 ≤ open_at program plan last
