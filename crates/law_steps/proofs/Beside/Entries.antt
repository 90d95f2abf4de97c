-- A block that is yet to be entered is that of a loop.
use Rattle.std.proofs.Common.{◌≡◌, ℕ, Bool, true, false, Some, None, refl, ap, sym, ◌∙◌, true≢false}
use Rattle.std.specs.Prelude.{is_some, if◌then◌else◌}
use Rattle.ppd_ast.specs.declared.plan.BlockKind.TheVariants as block
use Rattle.ppd_ast.specs.declared.plan.Plan.{Plan}
use Rattle.ppd_ast.specs.declared.program.Kind.{Kind}
use Rattle.ppd_ast.specs.declared.program.Kind.TheVariants as kind
use Rattle.ppd_ast.specs.declared.program.Program.{Program}
use Rattle.ppd_ast.specs.Lookups.{kind_of}
use Rattle.ppd_sem.specs.declared.proc.Todo.{Todo}
use Rattle.ppd_sem.specs.Process.{entry_of, loop_of}
use Rattle.ppd_sem.specs.Tables.{block_of}
use Rattle.law_steps.specs.Beside.Opens.{IsWhile}

module _ (program : Program) (plan : Plan) (t : Todo) (b : ℕ) (entry : entry_of program plan t ≡ Some b) where
  -- a statement that is not entered, which is that loop
  record IsYet : Type 0 where
    unentered : t.entered ≡ false
    loop : loop_of plan t.stmt (kind_of program t.stmt) ≡ Some b

  yet : IsYet
  yet = by t.entered refl
    where
      by : (x : Bool) → t.entered ≡ x → IsYet
      by true is = absurd (true≢false
          (ap is_some (sym entry ∙ ap (λ y. if y then None else loop_of plan t.stmt (kind_of program t.stmt)) is)))
      by false is = record {
        unentered = is;
        loop = sym (ap (λ y. if y then None else loop_of plan t.stmt (kind_of program t.stmt)) is) ∙ entry;
      }

  while_is : (k : Kind) → loop_of plan t.stmt k ≡ Some b → IsWhile k
  while_is (kind.While x body) h = tt
  while_is k h = absurd (true≢false (ap is_some (sym h)))

  pub entry_loops : (t.entered ≡ false) × IsWhile (kind_of program t.stmt)
  entry_loops = (yet.unentered, while_is (kind_of program t.stmt) yet.loop)

  block_is : (k : Kind) → loop_of plan t.stmt k ≡ Some b → block_of plan (block.Loop t.stmt) ≡ Some b
  block_is (kind.While x body) h = h
  block_is k h = absurd (true≢false (ap is_some (sym h)))

  pub loop_block : block_of plan (block.Loop t.stmt) ≡ Some b
  loop_block = block_is (kind_of program t.stmt) yet.loop
