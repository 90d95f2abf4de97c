-- Which words are numbers.
use Rattle.std.specs.Prelude.{ℕ, ◌+◌, ◌*◌, ◌-◌, ◌&&◌, nat_le, List, [], ◌∷◌, length, Option, Some, None, if◌then◌else◌}
use Rattle.std.specs.List.{list_all}
use Rattle.std.specs.Char.{is_ascii_digit}

-- the number of these digits after those of n
abbrev pub value_from : ℕ → List ℕ → ℕ
value_from n [] = n
value_from n (b ∷ bs) = value_from (n * 10 + (b - 48)) bs

-- a number: 1 to 9 digits, of which the first may be zeros
abbrev pub number_in : List ℕ → Option ℕ
number_in w =
    if nat_le 1 (length w) && (nat_le (length w) 9 && list_all is_ascii_digit w) then Some (value_from 0 w) else None
