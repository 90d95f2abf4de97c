-- The internal edges of each process by the cells that they write, and how many of them are below a limit.
use Rattle.std.specs.Prelude.{◌≡◌, ℕ, ◌+◌, ◌<◌, ◌≤◌, nat_eq, List, [], ◌∷◌, ◌++◌, get_or, length, if◌then◌else◌}
use Rattle.ppd_graph.specs.declared.sets.EdgeSets.{EdgeSets}
use Rattle.ppd_flow_tables.specs.declared.by_cell.WritingEdges.{WritingEdges}

-- edge i, once for each time that cell c stands in the list
abbrev pub times_in : ℕ → ℕ → List ℕ → List ℕ
times_in c i [] = []
times_in c i (w ∷ ws) = if nat_eq w c then i ∷ times_in c i ws else times_in c i ws

-- the edges that write cell c, of those numbered from i on
abbrev pub listed_in : ℕ → ℕ → List EdgeSets → List ℕ
listed_in c i [] = []
listed_in c i (s ∷ ss) = times_in c i s.writes ++ listed_in c (i + 1) ss

-- of each process the edges that write each cell; the processes have 8-bit numbers
pub record AreWritingEdges (sets : List (List EdgeSets)) (t : WritingEdges) : Type 0 where
  pub few : length sets ≤ 256
  pub long : length t.rows ≡ length sets
  pub lists : (q c : ℕ) → get_or (get_or t.rows q []) c [] ≡ listed_in c 0 (get_or sets q [])

-- the first n of these numbers are below the limit, and the others are not
pub record IsCut (limit : ℕ) (numbers : List ℕ) (n : ℕ) : Type 0 where
  pub within : n ≤ length numbers
  pub first : (k d : ℕ) → k < n → get_or numbers k d < limit
  pub others : (k d : ℕ) → n ≤ k → k < length numbers → limit ≤ get_or numbers k d
