-- Words compared lane by lane.
use Rattle.std.proofs.Common.{◌≡◌, ℕ, zero, suc, ◌+◌, ◌<◌, ◌≤◌, ◌*◌, ◌/◌, ◌%◌, ◌^◌, List, [], ◌∷◌, false, not, refl, sym, subst, ap, ◌∙◌, arith, inl, inr, length, get_or, min, max, true≢false, ◌||◌, lt_of_le_of_lt}
use Rattle.std.specs.Prelude.{IsTrue, nat_eq}
use Rattle.std.specs.Int.{bit_at, trailing_zeros}
use Rattle.std.proofs.lemmas.Bool.{eqb-true, ne_eqb, cases_lt, cases_Bool}
use Rattle.std.proofs.lemmas.Nat.Bits.{bit_at-zero, bit_at_and, bit_at_or, bit_at-lt, bit_at-trailing_zeros}
use Rattle.std.proofs.lemmas.Simd.{get_or-zip2, length-zip2}
use lib.Bits.{bit_and, bit_or, and_le_l}
use lib.Lanes.{zip2, fold_l}
use mir.Syntax.{w64}
use Rattle.ppd_ast.specs.Members.{has}
use Rattle.ppd_ast.proofs.Members.{any_from, any_gives}
use Rattle.ppd_ast.proofs.Those.{both, those_has, those_below}
use Rattle.ppd_ast.specs.declared.limits.TheConstants.{MOST_SHARED_CELLS}
use Rattle.ppd_sets.specs.CellSets.{meet, is_held, held}

nothing : (n : ℕ) → (0 < n → ⊥) → n ≡ 0
nothing zero h = refl
nothing (suc n) h = absurd (h (omega arith))

positive : (n : ℕ) → IsTrue (not (nat_eq n 0)) → 0 < n
positive zero h = absurd (true≢false (sym h))
positive (suc n) h = omega arith

larger : (a b : ℕ) → a < 2 → b < 2 → nat_eq (max a b) 1 ≡ (nat_eq a 1 || nat_eq b 1)
larger zero zero h k = refl
larger zero (suc zero) h k = refl
larger (suc zero) zero h k = refl
larger (suc zero) (suc zero) h k = refl
larger (suc (suc a)) b h k = absurd (omega arith)
larger zero (suc (suc b)) h k = absurd (omega arith)
larger (suc zero) (suc (suc b)) h k = absurd (omega arith)

-- ---- the or of a list

keeps : (a : ℕ) (xs : List ℕ) (j : ℕ) → bit_at a j ≡ 1 → bit_at (fold_l bit_or a xs) j ≡ 1
keeps a [] j h = h
keeps a (x ∷ xs) j h =
    keeps (bit_or a x) xs j (bit_at_or a x j ∙ (let low : bit_at x j < 2 = bit_at-lt x j in let e : max (bit_at a j) (bit_at x j) ≡ 1 = omega arith in e))

pub or_has : (a : ℕ) (xs : List ℕ) (i j : ℕ) → i < length xs → bit_at (get_or xs i 0) j ≡ 1 → bit_at (fold_l bit_or a xs) j ≡ 1
or_has a [] i j h k = absurd (omega arith)
or_has a (x ∷ xs) zero j h k =
    keeps (bit_or a x) xs j (bit_at_or a x j ∙ (let low : bit_at a j < 2 = bit_at-lt a j in let e : max (bit_at a j) (bit_at x j) ≡ 1 = omega arith in e))
or_has a (x ∷ xs) (suc i) j h k = or_has (bit_or a x) xs i j (omega arith) k

zero_or : (a x : ℕ) → a ≡ 0 → x ≡ 0 → bit_or a x ≡ 0
zero_or a x e f = ap (λ n. bit_or n x) e ∙ ap (bit_or 0) f

-- a list of which the or is not 0 has a number that is not
pub or_nonzero : (a : ℕ) (xs : List ℕ) → 0 < fold_l bit_or a xs → (0 < a → ⊥) → (i : ℕ) × (i < length xs) × (0 < get_or xs i 0)
or_nonzero a [] h f = absurd (f h)
or_nonzero a (zero ∷ xs) h f =
    let a_is : a ≡ 0 = nothing a f in
    let more = or_nonzero (bit_or a zero) xs h (λ k. let e : bit_or a zero ≡ 0 = zero_or a zero a_is refl in omega arith) in
    (suc more.0, (let below = more.1 in omega (arith, below)), more.2)
or_nonzero a (suc x ∷ xs) h f = (zero, omega arith, omega arith)

-- ---- both words have the bit

both_set : (a b j : ℕ) → bit_at (bit_and a b) j ≡ 1 → (bit_at a j ≡ 1) × (bit_at b j ≡ 1)
both_set a b j h =
    let e : min (bit_at a j) (bit_at b j) ≡ 1 = sym (bit_at_and a b j) ∙ h in
    let low : bit_at a j < 2 = bit_at-lt a j in
    let low' : bit_at b j < 2 = bit_at-lt b j in
    (omega arith, omega arith)

set_both : (a b j : ℕ) → bit_at a j ≡ 1 → bit_at b j ≡ 1 → bit_at (bit_and a b) j ≡ 1
set_both a b j h k = bit_at_and a b j ∙ (let e : min (bit_at a j) (bit_at b j) ≡ 1 = omega arith in e)

zero_unless : (n j : ℕ) → bit_at n j ≡ 1 → nat_eq n 0 ≡ false
zero_unless n j h = ne_eqb n 0 (λ e. let none : bit_at n j ≡ 0 = ap (λ m. bit_at m j) e ∙ bit_at-zero j in let no : 0 ≡ 1 = sym none ∙ h in omega arith)

cell_in : (words : List ℕ) (i j : ℕ) → i < 16 → j < 64 → bit_at (get_or words i 0) j ≡ 1 → IsTrue (has (held words) (64 * i + j))
unfolding held
cell_in words i j h k e =
    let word : (64 * i + j) / 64 ≡ i = omega arith in
    let bit : (64 * i + j) % 64 ≡ j = omega arith in
    let below : 64 * i + j < MOST_SHARED_CELLS = omega arith in
    those_has MOST_SHARED_CELLS (is_held words) (64 * i + j) below
    ∙ ap (λ n. nat_eq (bit_at (get_or words n 0) ((64 * i + j) % 64)) 1) word ∙ ap (λ n. nat_eq (bit_at (get_or words i 0) n) 1) bit ∙ ap (λ b. nat_eq b 1) e

-- words that share no bit hold no cell both
pub meet_is : (xs ys : List ℕ) → length xs ≡ 16 → length ys ≡ 16 → ((i : ℕ) → i < 16 → get_or xs i 0 < 2 ^ 64) → not (nat_eq (fold_l bit_or 0 (zip2 bit_and xs ys)) 0) ≡ meet (held xs) (held ys)
unfolding held
meet_is xs ys lx ly fits =
    let all : List ℕ = zip2 bit_and xs ys in
    let found : ℕ = fold_l bit_or 0 all in
    let long : length all ≡ 16 = length-zip2 bit_and xs ys (lx ∙ sym ly) ∙ lx in
    let lane : (i : ℕ) → i < 16 → get_or all i 0 ≡ bit_and (get_or xs i 0) (get_or ys i 0) = λ i h. get_or-zip2 bit_and xs ys i 0 0 0 (omega arith) (omega arith) in
    both (not (nat_eq found 0)) (meet (held xs) (held ys))
    (λ t.
    let some = or_nonzero 0 all (positive found t) (λ h. omega arith) in
    let i : ℕ = some.0 in
    let below : i < 16 = (let h = some.1 in omega (arith, h)) in
    let word : ℕ = bit_and (get_or xs i 0) (get_or ys i 0) in
    let full : 0 < word = subst (λ n. 0 < n) (lane i below) some.2 in
    let small : word < 2 ^ 64 = lt_of_le_of_lt (and_le_l (get_or xs i 0) (get_or ys i 0)) (fits i below) in
    let bit = bit_at-trailing_zeros w64 word full small in
    let j : ℕ = trailing_zeros w64 word in
    let sets = both_set (get_or xs i 0) (get_or ys i 0) j bit.1 in
    any_from (has (held ys)) (held xs) (64 * i + j) (cell_in xs i j below bit.0 sets.0) (cell_in ys i j below bit.0 sets.1))
    (λ t.
    let cell = any_gives (has (held ys)) (held xs) t in
    let x : ℕ = cell.0 in
    let below : x < MOST_SHARED_CELLS = those_below MOST_SHARED_CELLS (is_held xs) x cell.1 in
    let a : bit_at (get_or xs (x / 64) 0) (x % 64) ≡ 1 = eqb-true (bit_at (get_or xs (x / 64) 0) (x % 64)) 1 (sym (those_has MOST_SHARED_CELLS (is_held xs) x below) ∙ cell.1) in
    let b : bit_at (get_or ys (x / 64) 0) (x % 64) ≡ 1 = eqb-true (bit_at (get_or ys (x / 64) 0) (x % 64)) 1 (sym (those_has MOST_SHARED_CELLS (is_held ys) x below) ∙ cell.2) in
    let word : x / 64 < 16 = omega arith in
    let one : bit_at (get_or all (x / 64) 0) (x % 64) ≡ 1 = ap (λ n. bit_at n (x % 64)) (lane (x / 64) word) ∙ set_both (get_or xs (x / 64) 0) (get_or ys (x / 64) 0) (x % 64) a b in
    ap not (zero_unless found (x % 64) (or_has 0 all (x / 64) (x % 64) (omega arith) one)))

-- ---- the cells of both

either_held : (xs ys : List ℕ) (x : ℕ) → length xs ≡ 16 → length ys ≡ 16 → x < MOST_SHARED_CELLS → is_held (zip2 bit_or xs ys) x ≡ (is_held xs x || is_held ys x)
either_held xs ys x lx ly h =
    let word : x / 64 < 16 = omega arith in
    let lane : get_or (zip2 bit_or xs ys) (x / 64) 0 ≡ bit_or (get_or xs (x / 64) 0) (get_or ys (x / 64) 0) = get_or-zip2 bit_or xs ys (x / 64) 0 0 0 (omega arith) (omega arith) in
    ap (λ n. nat_eq (bit_at n (x % 64)) 1) lane ∙ ap (λ b. nat_eq b 1) (bit_at_or (get_or xs (x / 64) 0) (get_or ys (x / 64) 0) (x % 64))
    ∙ larger (bit_at (get_or xs (x / 64) 0) (x % 64)) (bit_at (get_or ys (x / 64) 0) (x % 64)) (bit_at-lt (get_or xs (x / 64) 0) (x % 64)) (bit_at-lt (get_or ys (x / 64) 0) (x % 64))

above : (words : List ℕ) (x : ℕ) → MOST_SHARED_CELLS ≤ x → has (held words) x ≡ false
unfolding held
above words x h = elim (cases_Bool (has (held words) x)) [ inl t ↦ absurd (let below = those_below MOST_SHARED_CELLS (is_held words) x t in omega (arith, below)) | inr f ↦ f ]

pub either_has : (xs ys : List ℕ) (x : ℕ) → length xs ≡ 16 → length ys ≡ 16 → has (held (zip2 bit_or xs ys)) x ≡ (has (held xs) x || has (held ys) x)
unfolding held
either_has xs ys x lx ly = elim (cases_lt x MOST_SHARED_CELLS) [
  | inl below ↦
      those_has MOST_SHARED_CELLS (is_held (zip2 bit_or xs ys)) x below ∙ either_held xs ys x lx ly below
      ∙ ap (λ b. b || is_held ys x) (sym (those_has MOST_SHARED_CELLS (is_held xs) x below)) ∙ ap (λ b. has (held xs) x || b) (sym (those_has MOST_SHARED_CELLS (is_held ys) x below))
  | inr high ↦ above (zip2 bit_or xs ys) x high ∙ sym (ap (λ b. b || has (held ys) x) (above xs x high) ∙ above ys x high)
]
