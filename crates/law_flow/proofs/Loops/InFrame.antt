-- The cells of a loop's postlog are cells of the loop's frame.
use Rattle.law_steps.proofs.Facts.Loops.{postlog_is}
use Rattle.ppd_ast.proofs.ValidLaws.{slice_get_below, stmt_in_body}
use Rattle.ppd_ast.specs.Lookups.{no_body}
use Rattle.ppd_ast.specs.Valid.{IsValid}
use Rattle.ppd_ast.specs.ValidPlan.{AreCells}
use Rattle.ppd_ast.specs.declared.plan.BlockKind.TheVariants as block
use Rattle.ppd_ast.specs.declared.plan.Policy.{Policy}
use Rattle.ppd_ast.specs.declared.program.Program.{Program}
use Rattle.ppd_blocks.proofs.Looping.{postlog_cells as cells_are}
use Rattle.ppd_blocks.specs.Blocks.{plan_of}
use Rattle.ppd_model.proofs.Changes.{some}
use Rattle.ppd_model.specs.FullTrace.{Tag}
use Rattle.ppd_sem.proofs.Kept.{There, there_at}
use Rattle.ppd_sem.proofs.Validity.{valid-runnable}
use Rattle.ppd_sem.specs.Blocks.{postlog_cells}
use Rattle.ppd_sem.specs.Runs.{IsRunnableStmt, RunsOver, stmt_size}
use Rattle.ppd_sem.specs.Tables.{block_of}
use Rattle.ppd_sets.specs.Used.{local_in, writes_at}
use Rattle.std.proofs.Common.{List, Some, [], ap, subst, suc, sym, zero, ℕ, ◌<◌, ◌∙◌, ◌∷◌, ◌≡◌}
use Rattle.std.proofs.lemmas.Option.{none-some}
use Rattle.std.specs.Prelude.{false, get_or, map, slice_get, unwrap_or, zip}

get_at : (xs : List ℕ) (n d c : ℕ) → slice_get xs n ≡ Some c → get_or xs n d ≡ c
get_at [] n d c e = absurd (none-some c e)
get_at (x ∷ xs) zero d c e = some e
get_at (x ∷ xs) (suc n) d c e = get_at xs n d c e

-- a cell with the tag that it has
pub zipped : (cells : List ℕ) (f : ℕ → Tag) (n c : ℕ) (w : Tag) → slice_get (zip cells (map f cells)) n ≡ Some (c, w)
    → (slice_get cells n ≡ Some c) × (w ≡ f c)
zipped [] f n c w e = absurd (none-some (c, w) e)
zipped (x ∷ xs) f zero c w e =
    let first : x ≡ c = ap (λ (q : ℕ × Tag). q.0) (some e) in
    (ap (λ z. Some z) first, sym (ap (λ (q : ℕ × Tag). q.1) (some e)) ∙ ap f first)
zipped (x ∷ xs) f (suc n) c w e = zipped xs f n c w e

pub postlog_below : (program : Program) (policy : Policy) → IsValid program → (q b size : ℕ)
    → block_of (plan_of program policy) (block.Loop q) ≡ Some b → RunsOver program size q → (n c : ℕ)
    → slice_get (postlog_cells (plan_of program policy) b) n ≡ Some c → c < size
postlog_below program policy v q b size found over n c at =
    let st : There (λ _ x. IsRunnableStmt program x) program.stmts q =
    there_at (λ _ x. IsRunnableStmt program x) program.stmts q (valid-runnable program v).stmts over.there in
    let body = stmt_in_body program q st.0 v st.1 in
    let cells : AreCells body.0.cells (local_in program (writes_at false program) q) = cells_are program q st.0 body.0 v st.1 body.1 in
    let there : slice_get (local_in program (writes_at false program) q) n ≡ Some c =
    ap (λ cs. slice_get cs n) (sym (postlog_is program policy v q b found)) ∙ at in
    let size_is : body.0.cells ≡ size =
    ap (λ o. (unwrap_or o no_body).cells) (sym body.1) ∙ ap (stmt_size program) (sym st.1) ∙ over.size in
    subst (λ z. c < z) size_is
    (subst (λ z. z < body.0.cells) (get_at (local_in program (writes_at false program) q) n c c there)
    (cells.below n c (slice_get_below (local_in program (writes_at false program) q) n c there)))
