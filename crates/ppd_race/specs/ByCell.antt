-- The busy edges of a process by the cells that they access.
use Rattle.std.specs.Prelude.{◌≡◌, ℕ, ◌+◌, ◌*◌, ◌<◌, Bool, ◌&&◌, List, [], ◌∷◌, ◌++◌, get_or, length, if◌then◌else◌}
use Rattle.std.specs.List.{sum_by}
use Rattle.ppd_ast.specs.declared.limits.TheConstants.{MOST_SHARED_CELLS}
use Rattle.ppd_ast.specs.Members.{has}
use Rattle.ppd_race_found.specs.declared.busy.Accessor.{Accessor}
use Rattle.ppd_race_found.specs.declared.busy.Busy.{Busy}
use Rattle.ppd_race_found.specs.declared.by_cell.ByCell.{ByCell}
use Rattle.ppd_race_found.specs.Lists.{one_at}

-- a busy edge at its place
abbrev pub accessor : ℕ → Busy → Accessor
accessor place a = record { place = place; edge = a.edge }

-- those of these busy edges, the first at place m, that pass the test
abbrev pub accessors_from : ℕ → (Busy → Bool) → List Busy → List Accessor
accessors_from m test [] = []
accessors_from m test (a ∷ rest) = (if test a then accessor m a ∷ [] else []) ++ accessors_from (m + 1) test rest

-- by each cell those that read it, and those that write it
pub record IsByCell (own : List Busy) (t : ByCell) : Type 0 where
  pub long_readers : length t.readers.items ≡ MOST_SHARED_CELLS
  pub long_writers : length t.writers.items ≡ MOST_SHARED_CELLS
  pub readers : (c : ℕ) → c < MOST_SHARED_CELLS
      → get_or t.readers.items c [] ≡ accessors_from 0 (λ a. has a.reads c) own
  pub writers : (c : ℕ) → c < MOST_SHARED_CELLS
      → get_or t.writers.items c [] ≡ accessors_from 0 (λ a. has a.writes c) own

-- ---- as they are listed

abbrev pub listed_if : Bool → ℕ → Accessor → ℕ → List Accessor
listed_if holds cell one c = if holds then one_at cell one c else []

-- one more at each of these cells that is in the set
abbrev pub listed_in : List ℕ → List ℕ → Accessor → ℕ → List Accessor
listed_in set cells one c = if has cells c && has set c then one ∷ [] else []

abbrev pub listing_cost : Busy → ℕ
listing_cost a = 1 + 4 * length a.cells

abbrev pub listing_least : Busy → ℕ
listing_least a = 1 + 2 * length a.cells

-- to list the edges of a process by their cells, and to join their races
abbrev pub own_cost : List Busy → ℕ
own_cost own = sum_by listing_cost own + 2 * length own
