-- The lines of intervals, one more at a time.
use Rattle.std.proofs.Common.{◌≡◌, ℕ, zero, suc, ◌+◌, List, [], ◌∷◌, ◌++◌, map, take, refl, ap, sym, ◌∙◌, append_assoc, append-nil, arith, add-one}
use Rattle.std.specs.Prelude.{slice_get}
use Rattle.ppd_ast.specs.declared.plan.Plan.{Plan}
use Rattle.ppd_ast.specs.declared.program.Program.{Program}
use Rattle.ppd_index.specs.declared.row.Row.{Row}
use Rattle.ppd_session.specs.Rows.{of_row, shown_at}
use Rattle.ppd_session.specs.Texts.{interval_line}
use Rattle.ppd_session.proofs.KnownWords.{interval_lines}

lines_after : (p : Program) (plan : Plan) (k : ℕ) (rows : List Row) (n : ℕ) → interval_lines p plan k (take (suc n) (map of_row rows)) ≡ interval_lines p plan k (take n (map of_row rows)) ++ shown_at p plan (k + n) (slice_get rows n)
lines_after p plan k [] zero = refl
lines_after p plan k [] (suc n) = refl
lines_after p plan k (r ∷ rows) zero =
    let z : k ≡ k + 0 = omega arith in
    append-nil (interval_line p plan k (of_row r)) ∙ ap (λ j. interval_line p plan j (of_row r)) z
lines_after p plan k (r ∷ rows) (suc n) =
    let z : k + 1 + n ≡ k + suc n = omega arith in
    ap (λ w. interval_line p plan k (of_row r) ++ w) (lines_after p plan (k + 1) rows n ∙ ap (λ j. interval_lines p plan (k + 1) (take n (map of_row rows)) ++ shown_at p plan j (slice_get rows n)) z)
    ∙ sym (append_assoc (interval_line p plan k (of_row r)) (interval_lines p plan (k + 1) (take n (map of_row rows))) (shown_at p plan (k + suc n) (slice_get rows n)))

pub lines_more : (p : Program) (plan : Plan) (rows : List Row) (n : ℕ) (old now new : List ℕ) → now ≡ old ++ interval_lines p plan 0 (take n (map of_row rows)) → new ≡ now ++ shown_at p plan n (slice_get rows n)
    → new ≡ old ++ interval_lines p plan 0 (take (n + 1) (map of_row rows))
lines_more p plan rows n old now new a b =
    let m : 0 + n ≡ n = omega arith in
    let more = lines_after p plan 0 rows n ∙ ap (λ j. interval_lines p plan 0 (take n (map of_row rows)) ++ shown_at p plan j (slice_get rows n)) m in
    b ∙ (ap (λ w. w ++ shown_at p plan n (slice_get rows n)) a
    ∙ (append_assoc old (interval_lines p plan 0 (take n (map of_row rows))) (shown_at p plan n (slice_get rows n))
    ∙ ap (λ w. old ++ w) (sym more ∙ ap (λ j. interval_lines p plan 0 (take j (map of_row rows))) (sym (add-one n)))))
