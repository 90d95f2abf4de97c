-- The cells that words of bits hold.
use Rattle.std.proofs.Common.{◌≡◌, ℕ, zero, suc, ◌<◌, ◌*◌, ◌/◌, ◌%◌, ◌^◌, List, [], ◌∷◌, false, refl, sym, ap, ◌∙◌, arith, inl, inr, length, get_or, set, replicate, ◌||◌}
use Rattle.std.specs.Prelude.{nat_eq}
use Rattle.std.specs.Int.{bit_at}
use Rattle.std.proofs.lemmas.Bool.{eq-eqb, ne_eqb, cases_eq, or_left}
use Rattle.std.proofs.lemmas.Nat.Bits.{bit_at-zero, bit_at_set_same, bit_at_set_other}
use lib.Bits.{bit_or}
use mir.Syntax.{w64}
use Rattle.ppd_ast.specs.Members.{has, those, with_cell}
use Rattle.ppd_ast.proofs.Those.{those_has, those_same, those_again, those_none}
use Rattle.ppd_ast.specs.declared.limits.TheConstants.{MOST_SHARED_CELLS}
use Rattle.ppd_sets.specs.CellSets.{is_held, held, IsSetBelow}
use Rattle.ppd_sets.proofs.CellSets.Sets.{those_more, those_set}

zero_at : (n k : ℕ) → ◌≡◌ {A = ℕ} (get_or (replicate n 0) k 0) 0
zero_at zero k = refl
zero_at (suc n) zero = refl
zero_at (suc n) (suc k) = zero_at n k

none_held : (cell : ℕ) → is_held (replicate 16 0) cell ≡ false
none_held cell = ap (λ w. nat_eq (bit_at w (cell % 64)) 1) (zero_at 16 (cell / 64)) ∙ ap (λ b. nat_eq b 1) (bit_at-zero (cell % 64))

pub held_none : held (replicate 16 0) ≡ []
unfolding held
held_none = those_none MOST_SHARED_CELLS (is_held (replicate 16 0)) (λ x h. none_held x)

-- ---- one more cell

at_set : (xs : List ℕ) (i y : ℕ) → i < length xs → get_or (set xs i y) i 0 ≡ y
at_set [] i y h = absurd (omega arith)
at_set (x ∷ xs) zero y h = refl
at_set (x ∷ xs) (suc i) y h = at_set xs i y (omega arith)

beside_set : (xs : List ℕ) (i j y : ℕ) → (i ≡ j → ⊥) → get_or (set xs i y) j 0 ≡ get_or xs j 0
beside_set [] i j y h = refl
beside_set (x ∷ xs) zero zero y h = absurd (h refl)
beside_set (x ∷ xs) zero (suc j) y h = refl
beside_set (x ∷ xs) (suc i) zero y h = refl
beside_set (x ∷ xs) (suc i) (suc j) y h = beside_set xs i j y (λ e. h (ap suc e))

-- the words with the cell's bit
abbrev pub with_bit : List ℕ → ℕ → List ℕ
with_bit words cell = set words (cell / 64) (bit_or (get_or words (cell / 64) 0) (1 * 2 ^ (cell % 64) % 2 ^ 64))

bit_of : (words : List ℕ) (cell x : ℕ) → cell / 64 < length words → x / 64 ≡ cell / 64 → get_or (with_bit words cell) (x / 64) 0 ≡ bit_or (get_or words (cell / 64) 0) (1 * 2 ^ (cell % 64) % 2 ^ 64)
bit_of words cell x h e = ap (λ i. get_or (with_bit words cell) i 0) e ∙ at_set words (cell / 64) (bit_or (get_or words (cell / 64) 0) (1 * 2 ^ (cell % 64) % 2 ^ 64)) h

in_word : (words : List ℕ) (cell x : ℕ) → cell / 64 < length words → x / 64 ≡ cell / 64 → is_held (with_bit words cell) x ≡ (nat_eq cell x || is_held words x)
in_word words cell x h e =
    let word : ℕ = get_or words (cell / 64) 0 in
    let new : ℕ = bit_or word (1 * 2 ^ (cell % 64) % 2 ^ 64) in
    let is_new : is_held (with_bit words cell) x ≡ nat_eq (bit_at new (x % 64)) 1 = ap (λ w. nat_eq (bit_at w (x % 64)) 1) (bit_of words cell x h e) in
    elim (cases_eq (x % 64) (cell % 64)) [
      | inl same ↦
          let cell_is : cell ≡ x = omega arith in
          is_new ∙ ap (λ i. nat_eq (bit_at new i) 1) same ∙ ap (λ b. nat_eq b 1) (bit_at_set_same w64 word (cell % 64) (omega arith)) ∙ sym (or_left (nat_eq cell x) (is_held words x) (eq-eqb cell x cell_is))
      | inr other ↦
          let others : (cell ≡ x) → ⊥ = λ f. other (ap (λ z. z % 64) (sym f)) in
          is_new ∙ ap (λ b. nat_eq b 1) (bit_at_set_other w64 word (cell % 64) (omega arith) (x % 64) other)
          ∙ ap (λ i. nat_eq (bit_at (get_or words i 0) (x % 64)) 1) (sym e) ∙ ap (λ b. b || is_held words x) (sym (ne_eqb cell x others))
    ]

beside_word : (words : List ℕ) (cell x : ℕ) → (x / 64 ≡ cell / 64 → ⊥) → is_held (with_bit words cell) x ≡ (nat_eq cell x || is_held words x)
beside_word words cell x h =
    ap (λ w. nat_eq (bit_at w (x % 64)) 1) (beside_set words (cell / 64) (x / 64) (bit_or (get_or words (cell / 64) 0) (1 * 2 ^ (cell % 64) % 2 ^ 64)) (λ e. h (sym e)))
    ∙ ap (λ b. b || is_held words x) (sym (ne_eqb cell x (λ f. h (ap (λ z. z / 64) (sym f)))))

held_more : (words : List ℕ) (cell x : ℕ) → cell / 64 < length words → is_held (with_bit words cell) x ≡ (nat_eq cell x || is_held words x)
held_more words cell x h = elim (cases_eq (x / 64) (cell / 64)) [ inl e ↦ in_word words cell x h e | inr n ↦ beside_word words cell x n ]

pub held_with : (words : List ℕ) (cell : ℕ) → length words ≡ 16 → cell < MOST_SHARED_CELLS → held (with_bit words cell) ≡ with_cell cell (held words)
unfolding held
held_with words cell long h =
    let there : cell / 64 < length words = (let below : cell / 64 < 16 = omega arith in omega arith) in
    those_same MOST_SHARED_CELLS (is_held (with_bit words cell)) (λ x. nat_eq cell x || is_held words x) (λ x k. held_more words cell x there) ∙ those_more cell MOST_SHARED_CELLS (is_held words) h

pub held_at : (words : List ℕ) (cell : ℕ) → cell < MOST_SHARED_CELLS → has (held words) cell ≡ is_held words cell
unfolding held
held_at words cell h = those_has MOST_SHARED_CELLS (is_held words) cell h

-- a set from its cells, gathered one by one
pub gathered : (words cells : List ℕ) (n : ℕ) → n ≡ MOST_SHARED_CELLS → cells ≡ those n (is_held words) → cells ≡ held words
unfolding held
gathered words cells n end e = e ∙ ap (λ k. those k (is_held words)) end

pub held_set : (words : List ℕ) → IsSetBelow MOST_SHARED_CELLS (held words)
unfolding held
held_set words = those_set MOST_SHARED_CELLS (is_held words)

pub held_whole : (words : List ℕ) → held words ≡ those MOST_SHARED_CELLS (has (held words))
unfolding held
held_whole words = sym (those_again MOST_SHARED_CELLS (is_held words))
