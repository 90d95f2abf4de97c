-- Places that are listed under numbers: each with its number as one key, in order.
use Rattle.std.specs.Prelude.{◌≡◌, ℕ, ◌+◌, ◌*◌, ◌^◌, ◌<◌, true, false, List, Option, Some, None}
use Rattle.ppd_ast.specs.Members.{has}

-- place i under number n; places are below 2 ^ 32
abbrev pub key : ℕ → ℕ → ℕ
key n i = n * 2 ^ 32 + i

-- the place of this key, if it is under number n
abbrev pub IsPlaceUnder : ℕ → ℕ → Option ℕ → Type 0
IsPlaceUnder n k None = (i : ℕ) → i < 2 ^ 32 → k ≡ key n i → ⊥
IsPlaceUnder n k (Some i) = (i < 2 ^ 32) × (k ≡ key n i)

-- the first place under a number, if there is one
abbrev pub IsFirstUnder : List ℕ → ℕ → Option ℕ → Type 0
IsFirstUnder keys n None = (i : ℕ) → i < 2 ^ 32 → has keys (key n i) ≡ false
IsFirstUnder keys n (Some i) =
    (i < 2 ^ 32) × (has keys (key n i) ≡ true) × ((j : ℕ) → j < i → has keys (key n j) ≡ false)

-- the last place under a number and before this place, if there is one
abbrev pub IsLastUnder : List ℕ → ℕ → ℕ → Option ℕ → Type 0
IsLastUnder keys n most None = (i : ℕ) → i < most → i < 2 ^ 32 → has keys (key n i) ≡ false
IsLastUnder keys n most (Some i) =
    (i < most) × (i < 2 ^ 32) × (has keys (key n i) ≡ true)
    × ((j : ℕ) → i < j → j < most → j < 2 ^ 32 → has keys (key n j) ≡ false)
