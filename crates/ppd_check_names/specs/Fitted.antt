-- A number in a field of so many bits: the greatest number of the field, where it is larger. In an accepted source
-- none is.
use Rattle.std.specs.Prelude.{ℕ, ◌-◌, ◌^◌, min}

abbrev pub fitted : (bits : ℕ) → ℕ → ℕ
fitted bits n = min n (2 ^ bits - 1)
