-- Lists of numbers, by what stands in them.
use Rattle.std.specs.Prelude.{ℕ, ◌+◌, ◌<◌, ◌≤◌, ⊤, IsTrue, nat_eq, nat_lt, Bool, List, [], ◌∷◌, if◌then◌else◌}
use Rattle.std.specs.List.{range_with_len, filter, list_any}

-- whether x is in the list
abbrev pub has : List ℕ → ℕ → Bool
has xs x = list_any (λ y. nat_eq y x) xs

-- the numbers below n at which the test is true: rising, each once
abbrev pub those : ℕ → (ℕ → Bool) → List ℕ
those n test = filter test (range_with_len 0 n)

-- a rising list with one more number
abbrev pub with_cell : ℕ → List ℕ → List ℕ
with_cell c [] = c ∷ []
with_cell c (d ∷ ds) = if nat_lt c d then c ∷ d ∷ ds else if nat_eq c d then d ∷ ds else d ∷ with_cell c ds

-- each number is above those before it, and at least n
abbrev pub RisesFrom : ℕ → List ℕ → Type 0
RisesFrom n [] = ⊤
RisesFrom n (x ∷ xs) = (n ≤ x) × RisesFrom (x + 1) xs

-- each of these numbers is below n
abbrev pub AreBelow : ℕ → List ℕ → Type 0
AreBelow n xs = (x : ℕ) → IsTrue (has xs x) → x < n
