-- Rows by a frame and a number.
use Rattle.std.specs.Prelude.{◌≡◌, ℕ, nat_eq, ◌&&◌, List, [], unwrap_or, if◌then◌else◌}
use Rattle.std.specs.HashMap.{get}
use Rattle.ppd_flow_local_tables.specs.declared.rows.Rows.{Rows}
use Rattle.ppd_flow_local_tables.specs.Rows.{AllBefore, noted}

module _ {A : Type 0} where
  -- the row of a frame and a number
  abbrev pub row_of : Rows A → ℕ → ℕ → List (ℕ × A)
  row_of rows f k = unwrap_or (get (λ x y. nat_eq x.0 y.0 && nat_eq x.1 y.1) rows.kept (f, k)) []

  -- each value is of an item before item n
  abbrev pub AllRowsBefore : ℕ → Rows A → Type 0
  AllRowsBefore n rows = (f k : ℕ) → AllBefore n (row_of rows f k)

  -- one row has this value of item n too, unless it had one, and the others are as before
  abbrev pub Notes : (frame number n : ℕ) → A → (old new : Rows A) → Type 0
  Notes frame number n v old new =
      (f k : ℕ)
      → row_of new f k ≡ (if nat_eq frame f && nat_eq number k then noted n v (row_of old f k) else row_of old f k)
