-- What a set of cells gains.
use Rattle.std.specs.Prelude.{◌≡◌, ◌<◌, ℕ, ◌||◌, List, Option, Some, None, [], slice_get}
use Rattle.ppd_ast.specs.declared.limits.TheConstants.{MOST_SHARED_CELLS}
use Rattle.ppd_ast.specs.Members.{has}
use Rattle.ppd_sets.specs.declared.touched.Touched.{Touched}

-- of the cells that a program may have, the set has those that it had and these
pub record Gains (old new cells : List ℕ) : Type 0 where
  pub each : (c : ℕ) → c < MOST_SHARED_CELLS → has new c ≡ (has old c || has cells c)

-- the same of what is read and what is written
pub record GainsBoth (old new : Touched) (read written : List ℕ) : Type 0 where
  pub reads : Gains old.reads new.reads read
  pub writes : Gains old.writes new.writes written

-- of the cells that a program may have, the set has just these
pub record HasCells (set cells : List ℕ) : Type 0 where
  pub each : (c : ℕ) → c < MOST_SHARED_CELLS → has set c ≡ has cells c

pub record HasBoth (t : Touched) (read written : List ℕ) : Type 0 where
  pub reads : HasCells t.reads read
  pub writes : HasCells t.writes written

abbrev pub reads_in : Option Touched → List ℕ
reads_in None = []
reads_in (Some t) = t.reads

abbrev pub writes_in : Option Touched → List ℕ
writes_in None = []
writes_in (Some t) = t.writes

-- what the k-th of the list reads, and writes
abbrev pub reads_of : List Touched → ℕ → List ℕ
reads_of list k = reads_in (slice_get list k)

abbrev pub writes_of : List Touched → ℕ → List ℕ
writes_of list k = writes_in (slice_get list k)
