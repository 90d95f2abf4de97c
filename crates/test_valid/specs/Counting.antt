-- Lists that count up.
use Rattle.std.specs.Prelude.{ℕ, ◌+◌, ◌==◌, List, [], ◌∷◌, Option, Some, None, if◌then◌else◌}

-- the number after the list, where the list counts up from n
abbrev pub counted : List ℕ → ℕ → Option ℕ
counted [] n = Some n
counted (i ∷ is) n = if i == n then counted is (n + 1) else None
