-- How many blocks are open by what is still to do: entered loops, and the ends of bodies that are blocks.
use Rattle.std.specs.Prelude.{⊤, ◌≡◌, ℕ, ◌+◌, true, List, [], ◌∷◌, is_some}
use Rattle.ppd_ast.specs.declared.plan.BlockKind.TheVariants as block
use Rattle.ppd_ast.specs.declared.plan.Plan.{Plan}
use Rattle.ppd_ast.specs.declared.program.Kind.{Kind}
use Rattle.ppd_ast.specs.declared.program.Kind.TheVariants.{While, Return, End}
use Rattle.ppd_ast.specs.declared.program.Program.{Program}
use Rattle.ppd_ast.specs.Lookups.{kind_of, body_of, body_numbered}
use Rattle.ppd_ast.specs.Counting.{one_if}
use Rattle.ppd_sem.specs.declared.proc.Need.{Need}
use Rattle.ppd_sem.specs.declared.proc.Proc.{Proc}
use Rattle.ppd_sem.specs.declared.proc.Todo.{Todo}
use Rattle.ppd_sem.specs.Process.{todos, top_frame}
use Rattle.ppd_sem.specs.Tables.{block_of}
use Rattle.ppd_model.specs.Marks.{opened, closed}
use Rattle.law_steps.specs.Beside.Relation.{IsCallOf, IsListOf}

-- one, where the statement ends a body that is a block; a process's is always one
abbrev pub ends_block : Plan → ℕ → Kind → ℕ
ends_block plan body (Return e) = one_if (is_some (block_of plan (block.Function body)))
ends_block plan body End = 1
ends_block plan body k = 0

abbrev pub open_at : Program → Plan → Todo → ℕ
open_at program plan t = one_if t.entered + ends_block plan (body_of program t.stmt)
    (kind_of program t.stmt)

abbrev pub opens : Program → Plan → List Todo → ℕ
opens program plan [] = 0
opens program plan (t ∷ ts) = open_at program plan t + opens program plan ts

-- what validity and the policy give
pub record IsCountable (program : Program) (plan : Plan) : Type 0 where
  pub lists : (s : ℕ) (stmts : List ℕ) → IsListOf (kind_of program s) stmts → opens program plan (todos stmts) ≡ 0
  pub bodies : (s f : ℕ) → IsCallOf (kind_of program s) f
      → opens program plan (todos (body_numbered program f).top) ≡ one_if (is_some (block_of plan (block.Function f)))

abbrev pub IsWhile : Kind → Type 0
IsWhile (While e body) = ⊤
IsWhile k = ⊥

-- of the head: its body is that of the top frame, and only a block loop is entered
pub record IsHome (program : Program) (plan : Plan) (s : Proc) (t : Todo) : Type 0 where
  pub body : body_of program t.stmt ≡ (top_frame s.frames).body
  pub loops : t.entered ≡ true → IsWhile (kind_of program t.stmt)
  pub blocks : t.entered ≡ true → is_some (block_of plan (block.Loop t.stmt)) ≡ true

-- a step opens and closes as many blocks as it says
abbrev pub IsCountedStep : Program → Plan → Proc → Need → Proc → Type 0
IsCountedStep program plan s n after =
    opens program plan after.todo + one_if (is_some (closed program plan s n))
    ≡ opens program plan s.todo + one_if (is_some (opened program plan s n))
