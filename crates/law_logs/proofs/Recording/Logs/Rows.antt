-- Rising lists of shared cells.
use Rattle.std.proofs.Common.{◌≡◌, ℕ, suc, ◌+◌, ◌<◌, ◌≤◌, ◌^◌, true, false, Bool, List, [], ◌∷◌, refl, length, arith, if◌then◌else◌, inl, inr}
use Rattle.std.specs.Prelude.{nat_eq, nat_le, nat_lt}
use Rattle.std.proofs.lemmas.Bool.{and_parts, cases_eq, cases_lt}
use Rattle.std.proofs.lemmas.Bool.Decides.{nat_tests}
use Rattle.ppd_ast.specs.Members.{with_cell}
use Rattle.ppd_ast.specs.declared.limits.TheConstants.{MOST_SHARED_CELLS}
use Rattle.ppd_codec.specs.Form.{Along}
use Rattle.ppd_codec.specs.Format.{cells}
use Rattle.ppd_codec_fields.specs.Fields.{is_next}
use Rattle.law_logs.proofs.Recording.Fit.{All}

abbrev pub IsRow : ℕ → ℕ → List ℕ → Type 0
IsRow shared low xs = Along (is_next shared) (λ c. c + 1) low xs

next_of : (shared low c : ℕ) → low ≤ c → c < shared → is_next shared low c ≡ true
next_of shared low c h k =
    let a : nat_le low c ≡ true = grind (arith, nat_tests) in
    let b : nat_lt c shared ≡ true = grind (arith, nat_tests) in
    rw (a, b) refl

low_of : (shared low c : ℕ) → is_next shared low c ≡ true → low ≤ c
low_of shared low c e = let a : nat_le low c ≡ true = (and_parts (nat_le low c) (nat_lt c shared) e).0 in grind (arith, nat_tests)

below_of : (shared low c : ℕ) → is_next shared low c ≡ true → c < shared
below_of shared low c e = let a : nat_lt c shared ≡ true = (and_parts (nat_le low c) (nat_lt c shared) e).1 in grind (arith, nat_tests)

-- a row that begins at a number begins at a smaller one
row_from : (shared low high : ℕ) (xs : List ℕ) → low ≤ high → IsRow shared high xs → IsRow shared low xs
row_from shared low high [] le h = tt
row_from shared low high (x ∷ xs) le h = let a : high ≤ x = low_of shared high x h.0 in (next_of shared low x (omega (arith, le, a)) (below_of shared high x h.0), h.1)

pub row_with : (shared low c : ℕ) (xs : List ℕ) → low ≤ c → c < shared → IsRow shared low xs → IsRow shared low (with_cell c xs)
row_with shared low c [] le lt h = (next_of shared low c le lt, tt)
row_with shared low c (d ∷ ds) le lt h = elim (cases_lt c d) [
  | inl less ↦
      let e : nat_lt c d ≡ true = grind (arith, nat_tests) in
      rw (e) (next_of shared low c le lt, (next_of shared (c + 1) d (omega (arith, less)) (below_of shared low d h.0), h.1))
  | inr more ↦
      let e : nat_lt c d ≡ false = grind (arith, nat_tests) in
      elim (cases_eq c d) [
        | inl same ↦ let f : nat_eq c d ≡ true = grind (arith, nat_tests) in rw (e, f) h
        | inr other ↦
            let f : nat_eq c d ≡ false = grind (arith, nat_tests) in
            rw (e, f) (h.0, row_with shared (d + 1) c ds (omega (arith, more, other)) lt h.1)
      ]
]

pub few_more : (c : ℕ) (xs : List ℕ) → length (with_cell c xs) ≤ length xs + 1
few_more c [] = omega arith
few_more c (d ∷ ds) = by (nat_lt c d) (nat_eq c d) (few_more c ds)
  where
    by : (a b : Bool) → length (with_cell c ds) ≤ length ds + 1 → length (if a then c ∷ d ∷ ds else if b then d ∷ ds else d ∷ with_cell c ds) ≤ suc (length ds) + 1
    by true b r = omega arith
    by false true r = omega arith
    by false false r = omega (arith, r)

row_length : (shared low : ℕ) (xs : List ℕ) → low ≤ shared → IsRow shared low xs → length xs + low ≤ shared
row_length shared low [] le h = omega (arith, le)
row_length shared low (x ∷ xs) le h =
    let a : low ≤ x = low_of shared low x h.0 in
    let b : x < shared = below_of shared low x h.0 in
    let r : length xs + (x + 1) ≤ shared = row_length shared (x + 1) xs (omega (arith, b)) h.1 in
    omega (arith, a, r)

row_small : (shared low : ℕ) (xs : List ℕ) → shared ≤ MOST_SHARED_CELLS → IsRow shared low xs → All (λ c. c < 2 ^ 16) xs
row_small shared low [] few h = tt
row_small shared low (x ∷ xs) few h = let b : x < shared = below_of shared low x h.0 in (omega (arith, b, few), row_small shared (x + 1) xs few h.1)

pub row_lawful : (shared : ℕ) (xs : List ℕ) → shared ≤ MOST_SHARED_CELLS → IsRow shared 0 xs → (cells shared).Lawful xs
row_lawful shared xs few h =
    let r : length xs + 0 ≤ shared = row_length shared 0 xs (omega arith) h in
    (omega (arith, few, r), row_small shared 0 xs few h, h)
