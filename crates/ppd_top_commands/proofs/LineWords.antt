-- The words of proofs for lines.
use Rattle.std.specs.List.{AllByRecursion}
use Rattle.std.specs.Prelude.{List, ℕ}
use Rattle.std.specs.Str.Iter.{LacksByte}

-- none of the lines has a newline in it
abbrev pub ArePlain : List (List ℕ) → Type 0
ArePlain lines = AllByRecursion (LacksByte 10) lines
