-- Words on lists of numbers.
use Rattle.std.specs.Prelude.{ℕ, nat_eq, nat_lt, List, [], ◌∷◌, Option, Some, None, if◌then◌else◌, option_to_list}

-- the numbers that are there, rising, each once
abbrev pub rising : Option ℕ → Option ℕ → List ℕ
rising None b = option_to_list b
rising (Some x) None = x ∷ []
rising (Some x) (Some y) = if nat_lt x y then x ∷ y ∷ [] else if nat_eq x y then x ∷ [] else y ∷ x ∷ []
