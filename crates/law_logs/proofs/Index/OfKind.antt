-- The values that a block of the plan has at its two ends, by its kind.
use Rattle.std.proofs.Common.{◌≡◌, ℕ, ◌+◌, ◌<◌, ℤ, true, List, [], length, Option, Some, None, refl, ap, sym, subst, ◌∙◌, arith, if◌then◌else◌, eq-eqb, true≢false}
use Rattle.std.proofs.lemmas.Bool.{le-leb}
use Rattle.std.specs.Prelude.{is_some, slice_get}
use Rattle.ppd_ast.specs.Bare.{gives_value}
use Rattle.ppd_ast.specs.Valid.{IsValid}
use Rattle.ppd_ast.proofs.ValidLaws.{slice_get_there, valid_body}
use Rattle.ppd_ast.specs.declared.plan.BlockKind.{BlockKind}
use Rattle.ppd_ast.specs.declared.plan.BlockKind.TheVariants as block
use Rattle.ppd_ast.specs.declared.plan.Plan.{Plan}
use Rattle.ppd_ast.specs.declared.plan.Policy.{Policy}
use Rattle.ppd_ast.specs.declared.program.Program.{Program}
use Rattle.ppd_blocks.specs.Blocks.{plan_of, postlog_of, prelog_of}
use Rattle.ppd_blocks.proofs.Vocabulary.{block_of as block_from}
use Rattle.ppd_sem.specs.Tables.{block_of}
use Rattle.law_steps.specs.OpenBlocks.Stack.{process_block}
use Rattle.law_steps.proofs.OpenBlocks.Planned.{block_there, process_found}
use Rattle.ppd_index.proofs.Vocabulary.{fits_postlog, fits_prelog, kind_there}
use Rattle.ppd_sem.proofs.TableWords.{or_zero}

module _ (program : Program) (policy : Policy) (v : IsValid program) where
  abbrev plan : Plan
  plan = plan_of program policy

  -- ---- the block of a kind

  module _ (k : BlockKind) (b : ℕ) (found : block_of plan k ≡ Some b) where
    at : slice_get plan.blocks b ≡ Some (block_from program k)
    at = block_there program policy k b found

    pub kind_found : kind_there (slice_get plan.blocks b) ≡ Some k
    kind_found = ap kind_there at

    pub prelog_fits : (values : List ℤ) → length values ≡ length (prelog_of program k) → fits_prelog (slice_get plan.blocks b) values ≡ true
    prelog_fits values e = ap (λ o. fits_prelog o values) at ∙ eq-eqb (length values) (length (prelog_of program k)) e

    pub postlog_fits : (values : List ℤ) → length values ≡ length (postlog_of program k) + (if gives_value program.bodies k then 1 else 0) → fits_postlog (slice_get plan.blocks b) values ≡ true
    postlog_fits values e = ap (λ o. fits_postlog o values) at ∙ eq-eqb (length values) (length (postlog_of program k) + (if gives_value program.bodies k then 1 else 0)) e

  -- ---- the process's own block

  module _ (p : ℕ) (there : program.functions + p < length program.bodies) where
    abbrev own : ℕ
    own = program.functions + p

    own_block : (b : ℕ) × (block_of plan (block.Process own) ≡ Some b)
    own_block =
        let b = slice_get_there program.bodies own there in
        let process : b.0.process ≡ true = (valid_body program own b.0 v b.1).process ∙ le-leb program.functions own (omega arith) in
        by (block_of plan (block.Process own)) refl (process_found program policy own b.0 b.1 process)
      where
        by : (o : Option ℕ) → block_of plan (block.Process own) ≡ o → is_some o ≡ true → (b : ℕ) × (block_of plan (block.Process own) ≡ Some b)
        by None e some = absurd (true≢false (sym some))
        by (Some b) e some = (b, e)

    abbrev IsOwn : ℕ → Type 0
    IsOwn b = (fits_prelog (slice_get plan.blocks b) [] ≡ true) × ((fits_postlog (slice_get plan.blocks b) [] ≡ true) × (kind_there (slice_get plan.blocks b) ≡ Some (block.Process own)))

    -- it has no values at either end
    pub own_fits : IsOwn (process_block program plan p)
    own_fits =
        let b = own_block in
        subst (λ o. IsOwn (or_zero o)) (sym b.1)
        ((prelog_fits (block.Process own) b.0 b.1 [] refl, (postlog_fits (block.Process own) b.0 b.1 [] refl, kind_found (block.Process own) b.0 b.1)))
