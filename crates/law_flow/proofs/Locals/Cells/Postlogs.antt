-- What a statement that stands in a block loop writes is in the loop's postlog.
use Rattle.std.proofs.Common.{◌≡◌, ℕ, true, Option, Some, None, ap, sym, eqb-true, true≢false}
use Rattle.std.proofs.lemmas.Option.{none-some}
use Rattle.ppd_ast.specs.Valid.{IsValid}
use Rattle.ppd_ast.specs.declared.plan.BlockKind.TheVariants as block
use Rattle.ppd_ast.specs.declared.plan.Policy.{Policy}
use Rattle.ppd_ast.specs.declared.program.Kind.{Kind}
use Rattle.ppd_ast.specs.declared.program.Kind.TheVariants as kind
use Rattle.ppd_ast.specs.declared.program.Program.{Program}
use Rattle.ppd_ast.specs.Lookups.{kind_of}
use Rattle.law_steps.proofs.Vocabulary.Held.{Among, IsWriting}
use Rattle.ppd_blocks.specs.Blocks.{plan_of}
use Rattle.law_steps.proofs.Facts.Loops.{loop_writing}
use Rattle.ppd_sem.specs.Blocks.{postlog_cells}
use Rattle.ppd_sem.specs.Process.{into_of}
use Rattle.ppd_sem.specs.Tables.{block_of}
use Rattle.ppd_blocks.specs.Walk.{stands_in}
use Rattle.ppd_model.specs.Synchronizations.{is_number}
use Rattle.law_flow.proofs.Vocabulary.LoopTells.{Takes}
use Rattle.law_flow.proofs.Locals.Cells.Writes.{among_in}

number_is : (o : Option ℕ) (c : ℕ) → is_number o c ≡ true → o ≡ Some c
number_is None c h = absurd (true≢false (sym h))
number_is (Some d) c h = ap (λ k. Some k) (eqb-true d c h)

into_written : (written : ℕ → Type 0) (k : Kind) (c : ℕ) → IsWriting written k → into_of k ≡ Some c → written c
into_written written (kind.Call g arguments into) c w e = w c e
into_written written k c w e = absurd (none-some c e)

module _ (program : Program) (policy : Policy) (v : IsValid program) (q b : ℕ)
    (e : block_of (plan_of program policy) (block.Loop q) ≡ Some b) where
  pub writes_in : (s : ℕ) → stands_in program s q ≡ true
      → IsWriting (Among (postlog_cells (plan_of program policy) b)) (kind_of program s)
  writes_in s h = (loop_writing program policy v q b e).writes s h

  pub into_in : (s : ℕ) → stands_in program s q ≡ true → Takes program (plan_of program policy) b s
  into_in s h c is =
      among_in (postlog_cells (plan_of program policy) b) c
      (into_written (Among (postlog_cells (plan_of program policy) b)) (kind_of program s) c (writes_in s h)
      (number_is (into_of (kind_of program s)) c is))
