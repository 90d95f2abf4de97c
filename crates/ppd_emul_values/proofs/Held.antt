-- The place of a cell's newest pair gives the value that is in force.
use Rattle.std.proofs.Common.{◌≡◌, ◌≢◌, ℕ, zero, suc, ◌+◌, ◌-◌, ◌<◌, ℤ, nat_eq, Bool, true, false, List, [], ◌∷◌, ◌++◌, length, drop, reverse, get_or, Option, Some, None, refl, ap, sym, ◌∙◌, subst, arith}
use Rattle.std.specs.Prelude.{slice_get, slice_set, zip, min}
use Rattle.std.proofs.lemmas.Bool.Decides.{nat_tests}
use Rattle.std.proofs.lemmas.List.{drop_more, reverse-append}
use Rattle.std.proofs.lemmas.Slice.Zip.{get_or-zip}
use Rattle.ppd_emul_values.specs.Held.{looked_up, value_from, value_if}
use Rattle.ppd_model.specs.Replay.{value_in_force}
use Rattle.ppd_index.proofs.CountedOn.{last_at}

-- ---- a pair more

set_here : {A : Type 0} (xs : List A) (i : ℕ) (x : A) → i < length xs → slice_get (slice_set xs i x) i ≡ Some x
set_here [] i x h = absurd (omega arith)
set_here (y ∷ ys) zero x h = refl
set_here (y ∷ ys) (suc i) x h = set_here ys i x (omega arith)

set_there : {A : Type 0} (xs : List A) (i j : ℕ) (x : A) → j ≢ i → slice_get (slice_set xs i x) j ≡ slice_get xs j
set_there [] i j x h = refl
set_there (y ∷ ys) zero zero x h = absurd (h refl)
set_there (y ∷ ys) zero (suc j) x h = refl
set_there (y ∷ ys) (suc i) zero x h = refl
set_there (y ∷ ys) (suc i) (suc j) x h = set_there ys i j x (λ e. h (ap suc e))

-- the pair of another cell changes no value
other_pair : (held : List (ℕ × ℤ)) (i c d : ℕ) (v : ℤ) → nat_eq c d ≡ false → value_if (slice_get (held ++ (c, v) ∷ []) i) d ≡ value_if (slice_get held i) d
other_pair [] zero c d v e = rw e refl
other_pair [] (suc i) c d v e = refl
other_pair (x ∷ xs) zero c d v e = refl
other_pair (x ∷ xs) (suc i) c d v e = other_pair xs i c d v e

other_from : (o : Option (Option ℕ)) (held : List (ℕ × ℤ)) (c d : ℕ) (v : ℤ) → nat_eq c d ≡ false → value_from (held ++ (c, v) ∷ []) d o ≡ value_from held d o
other_from None held c d v e = refl
other_from (Some None) held c d v e = refl
other_from (Some (Some i)) held c d v e = other_pair held i c d v e

-- the value of each cell, with one pair more
pub put_found : (places : List (Option ℕ)) (held : List (ℕ × ℤ)) (c : ℕ) (v : ℤ) → c < length places
    → ((d : ℕ) → looked_up places held d ≡ value_in_force (reverse held) d)
    → (d : ℕ) → looked_up (slice_set places c (Some (length held))) (held ++ (c, v) ∷ []) d ≡ value_in_force (reverse (held ++ (c, v) ∷ [])) d
put_found places held c v lt is d =
    by (nat_eq c d) refl ∙ ap (λ l. value_in_force l d) (sym (reverse-append held ((c, v) ∷ [])))
  where
    by : (b : Bool) → nat_eq c d ≡ b → looked_up (slice_set places c (Some (length held))) (held ++ (c, v) ∷ []) d ≡ value_in_force ((c, v) ∷ reverse held) d
    by true e =
        let same : c ≡ d = grind (arith, nat_tests) in
        let here : slice_get (slice_set places c (Some (length held))) d ≡ Some (Some (length held)) =
        subst (λ (n : ℕ). slice_get (slice_set places c (Some (length held))) n ≡ Some (Some (length held))) same (set_here places c (Some (length held)) lt) in
        ap (value_from (held ++ (c, v) ∷ []) d) here ∙ ap (λ o. value_if o d) (last_at held (c, v)) ∙ rw e refl
    by false e =
        let other : d ≢ c = λ q. let yes : nat_eq c d ≡ true = grind (arith, nat_tests) in cc in
        ap (value_from (held ++ (c, v) ∷ []) d) (set_there places c d (Some (length held)) other) ∙
        other_from (slice_get places d) held c d v e ∙ is d ∙ rw e refl

-- ---- a unit's cells

length-zip : (cs : List ℕ) (vs : List ℤ) → length (zip cs vs) ≡ min (length cs) (length vs)
length-zip [] vs = omega arith
length-zip (c ∷ cs) [] = omega arith
length-zip (c ∷ cs) (v ∷ vs) = omega (arith, length-zip cs vs)

-- the pair before the last ones
pub zip_before : (cs : List ℕ) (vs : List ℤ) (count i c : ℕ) (v : ℤ) → count ≡ min (length cs) (length vs) → i < count
    → (get_or cs (count - 1 - i) c, get_or vs (count - 1 - i) v) ∷ drop (count - i) (zip cs vs) ≡ drop (count - (i + 1)) (zip cs vs)
zip_before cs vs count i c v e h =
    let n : ℕ = count - 1 - i in
    let all : length (zip cs vs) ≡ min (length cs) (length vs) = length-zip cs vs in
    let next : n + 1 ≡ count - i = omega arith in
    let here : n ≡ count - (i + 1) = omega arith in
    let more : drop n (zip cs vs) ≡ get_or (zip cs vs) n (c, v) ∷ drop (n + 1) (zip cs vs) = drop_more (zip cs vs) n (c, v) (omega arith) in
    let pair : get_or (zip cs vs) n (c, v) ≡ (get_or cs n c, get_or vs n v) = get_or-zip cs vs n (c, v) (omega arith) (omega arith) in
    ap (λ m. (get_or cs n c, get_or vs n v) ∷ drop m (zip cs vs)) (sym next) ∙
    ap (λ x. x ∷ drop (n + 1) (zip cs vs)) (sym pair) ∙ sym more ∙ ap (λ m. drop m (zip cs vs)) here

-- no pair is left past the last one
pub zip_past : (cs : List ℕ) (vs : List ℤ) (count : ℕ) → count ≡ min (length cs) (length vs) → drop count (zip cs vs) ≡ []
zip_past [] vs count e = let none : count ≡ 0 = omega arith in ap (λ m. drop m []) none
zip_past (c ∷ cs) [] count e = let none : count ≡ 0 = omega arith in ap (λ m. drop m []) none
zip_past (c ∷ cs) (v ∷ vs) zero e = absurd (omega arith)
zip_past (c ∷ cs) (v ∷ vs) (suc n) e = zip_past cs vs n (omega arith)

-- ---- lists

pub drop_next : {A : Type 0} (xs : List A) (n : ℕ) → drop (n + 1) xs ≡ drop 1 (drop n xs)
drop_next xs n =
    let next : n + 1 ≡ suc n = omega arith in
    ap (λ m. drop m xs) next ∙ by xs n
  where
    by : {A : Type 0} (xs : List A) (n : ℕ) → drop (suc n) xs ≡ drop 1 (drop n xs)
    by [] zero = refl
    by [] (suc n) = refl
    by (x ∷ xs) zero = refl
    by (x ∷ xs) (suc n) = by xs n
