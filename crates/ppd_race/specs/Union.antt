-- The cells of two lists as one that rises.
use Rattle.std.specs.Prelude.{◌≡◌, ℕ, ◌+◌, ◌<◌, Bool, true, not, ◌&&◌, nat_lt, nat_eq, min, List, [], ◌∷◌, length, Option, Some, None, if◌then◌else◌}
use Rattle.ppd_ast.specs.declared.limits.TheConstants.{MOST_SHARED_CELLS}
use Rattle.ppd_ast.specs.Members.{has, RisesFrom, AreBelow}
use Rattle.ppd_race_found.specs.EdgeSets.{EdgeSets}

-- the cells rise from n on, and are below 1,024
abbrev pub do_rise : ℕ → List ℕ → Bool
do_rise n [] = true
do_rise n (c ∷ cs) = not (nat_lt c n) && nat_lt c MOST_SHARED_CELLS && do_rise (c + 1) cs

-- a rising list of the cells that pass the test, all below 1,024
pub record IsUnion (test : ℕ → Bool) (cells : List ℕ) : Type 0 where
  pub rises : RisesFrom 0 cells
  pub below : AreBelow MOST_SHARED_CELLS cells
  pub has_all : (c : ℕ) → has cells c ≡ test c

-- a set with the cells of a list, which are below 1,024
pub record HasBelow (set cells : List ℕ) : Type 0 where
  pub low : (c : ℕ) → c < MOST_SHARED_CELLS → has set c ≡ has cells c
  pub high : AreBelow MOST_SHARED_CELLS set

-- the accesses of an edge; where a list does not rise, all cells are looked at
abbrev pub size_of : EdgeSets → ℕ
size_of sets =
    length sets.reads + length sets.writes
    + (if do_rise 0 sets.reads && do_rise 0 sets.writes then 0 else MOST_SHARED_CELLS)

-- ---- as it is made

-- the least of what is left of two rising lists
abbrev pub least_of : List ℕ → List ℕ → Option ℕ
least_of [] [] = None
least_of (x ∷ xs) [] = Some x
least_of [] (y ∷ ys) = Some y
least_of (x ∷ xs) (y ∷ ys) = Some (min x y)

-- without the cell, where it comes first
abbrev pub left_after : ℕ → List ℕ → List ℕ
left_after c [] = []
left_after c (x ∷ xs) = if nat_eq x c then xs else x ∷ xs

abbrev pub push_when : Bool → ℕ → List ℕ
push_when holds c = if holds then c ∷ [] else []
