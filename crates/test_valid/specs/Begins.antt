-- Lists that are compared piece by piece.
use Rattle.std.specs.Prelude.{◌≡◌, ℕ, List, ◌++◌, drop, Option, MatchOption}

-- the place in the list after these items, where they stand in it from this place on
abbrev pub Begins : {X : Type 0} → Option ℕ → List X → (place : ℕ) → List X → Type 0
Begins {X} after list place items =
    MatchOption after ((rest : List X) → drop place list ≡ items ++ rest → ⊥)
    (λ n. drop place list ≡ items ++ drop n list)
