-- What is known of every state of a process, and of a loop that is a block.
use Rattle.std.specs.Prelude.{◌≡◌, ℕ, false, List, ◌∷◌, length, Some, None}
use Rattle.ppd_ast.specs.declared.plan.BlockKind.TheVariants as block
use Rattle.ppd_ast.specs.declared.plan.Plan.{Plan}
use Rattle.ppd_ast.specs.declared.program.Program.{Program}
use Rattle.ppd_ast.specs.Lookups.{kind_of}
use Rattle.ppd_sem.specs.Blocks.{postlog_cells}
use Rattle.ppd_sem.specs.declared.proc.Answer.{Answer}
use Rattle.ppd_sem.specs.declared.proc.Need.TheVariants.{End}
use Rattle.ppd_sem.specs.declared.proc.Proc.{Proc}
use Rattle.ppd_sem.specs.declared.proc.Todo.{Todo}
use Rattle.ppd_sem.specs.Described.{ends_body}
use Rattle.ppd_sem.specs.Process.{act, need_of}
use Rattle.ppd_sem.specs.Tables.{block_of}
use Rattle.law_steps.proofs.Vocabulary.Relation.{IsEnd}
use Rattle.law_steps.proofs.Vocabulary.Held.{Among, IsWritingBlock}
use Rattle.law_steps.specs.Beside.Opens.{IsHome, IsWhile}

-- it goes on with each step, its head is at home, and a process's end stands in the first frame
pub record IsFine (program : Program) (plan : Plan) (Fine : Proc → Type 0) : Type 0 where
  pub on : (s : Proc) (a : Answer) → Fine s → Fine (act program plan s a)
  pub home : (s : Proc) (t : Todo) (ts : List Todo) → Fine s → s.status ≡ None → s.todo ≡ t ∷ ts
      → IsHome program plan s t
  pub ends : (s : Proc) (t : Todo) (ts : List Todo) (b : ℕ) → Fine s → s.todo ≡ t ∷ ts
      → need_of program plan s ≡ End b → IsEnd (kind_of program t.stmt) × (length s.frames ≡ 1)

-- the statements of a loop's block write its postlog at most, and end no body; the loop is one of them
pub record IsLoopBlock (program : Program) (plan : Plan) (b : ℕ) (statements : ℕ → Type 0) : Type 0 where
  pub writing : IsWritingBlock program (Among (postlog_cells plan b)) statements
  pub goes_on : (s : ℕ) → statements s → ends_body (kind_of program s) ≡ false
  pub loop : (s : ℕ) → IsWhile (kind_of program s) → block_of plan (block.Loop s) ≡ Some b → statements s
