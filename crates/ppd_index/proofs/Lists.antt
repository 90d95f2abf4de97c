-- Look-ups and changes of lists.
use Rattle.std.proofs.Common.{◌≡◌, ℕ, zero, suc, ◌+◌, List, [], ◌∷◌, Some, None, drop, refl, ap, ◌∙◌, arith}
use Rattle.std.specs.Prelude.{slice_get}
use Rattle.ppd_index.specs.declared.row.Row.{Row}
use Rattle.ppd_index.specs.Tables.{open_one, open_rows}

-- ---- the intervals that run

pub first_is_get : (ks : List ℕ) → slice_get ks 0 ≡ slice_get ks 0
first_is_get [] = refl
first_is_get (k ∷ ks) = refl

next_of : (n : ℕ) (ks : List ℕ) (i k : ℕ) (rows : List Row) → slice_get ks i ≡ Some k → open_rows n (drop i ks) rows ≡ open_rows n (drop (suc i) ks) (open_one n k (slice_get ks (suc i)) rows)
next_of n [] i k rows e = absurd (cc e)
next_of n (m ∷ ks) zero k rows e =
    let is : m ≡ k = cc e in
    ap (λ j. open_rows n ks (open_one n j (slice_get ks 0) rows)) is ∙ ap (λ o. open_rows n ks (open_one n k o rows)) (first_is_get ks)
next_of n (m ∷ ks) (suc i) k rows e = next_of n ks i k rows e

pub open_next : (n : ℕ) (ks : List ℕ) (i k : ℕ) (rows : List Row) → slice_get ks i ≡ Some k → open_rows n (drop i ks) rows ≡ open_rows n (drop (i + 1) ks) (open_one n k (slice_get ks (i + 1)) rows)
open_next n ks i k rows e =
    let on : suc i ≡ i + 1 = omega arith in
    next_of n ks i k rows e ∙ ap (λ j. open_rows n (drop j ks) (open_one n k (slice_get ks j) rows)) on

-- where there is no interval of this number none is left
past_of : (n : ℕ) (ks : List ℕ) (i : ℕ) (rows : List Row) → slice_get ks i ≡ None → open_rows n (drop (suc i) ks) rows ≡ open_rows n (drop i ks) rows
past_of n [] zero rows e = refl
past_of n [] (suc i) rows e = refl
past_of n (m ∷ ks) zero rows e = absurd (cc e)
past_of n (m ∷ ks) (suc i) rows e = past_of n ks i rows e

pub open_past : (n : ℕ) (ks : List ℕ) (i : ℕ) (rows : List Row) → slice_get ks i ≡ None → open_rows n (drop (i + 1) ks) rows ≡ open_rows n (drop i ks) rows
open_past n ks i rows e =
    let on : i + 1 ≡ suc i = omega arith in
    ap (λ j. open_rows n (drop j ks) rows) on ∙ past_of n ks i rows e
