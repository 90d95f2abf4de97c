-- Numbers that stand in a list once.
use Rattle.std.specs.Prelude.{◌≡◌, ℕ, nat_eq, List}
use Rattle.std.specs.List.{count_by}

abbrev pub IsOnce : List ℕ → ℕ → Type 0
IsOnce list n = count_by (nat_eq n) list ≡ 1
