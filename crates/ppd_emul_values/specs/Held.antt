-- Pairs of cells and values, the newest last, with the place of the newest pair of each cell.
use Rattle.std.specs.Prelude.{ℕ, ℤ, nat_eq, pos, List, slice_get, Option, Some, None, if◌then◌else◌}

-- the value of a pair that is there and is of the cell
abbrev pub value_if : Option (ℕ × ℤ) → ℕ → ℤ
value_if None c = pos 0
value_if (Some x) c = if nat_eq x.0 c then x.1 else pos 0

-- the same of the pair at a place, where the cell has one
abbrev pub value_from : List (ℕ × ℤ) → ℕ → Option (Option ℕ) → ℤ
value_from held c None = pos 0
value_from held c (Some None) = pos 0
value_from held c (Some (Some place)) = value_if (slice_get held place) c

-- the value of a cell by its place
abbrev pub looked_up : List (Option ℕ) → List (ℕ × ℤ) → ℕ → ℤ
looked_up places held c = value_from held c (slice_get places c)
