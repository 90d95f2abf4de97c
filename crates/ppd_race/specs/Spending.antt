-- What a search for races costs: a look at each edge, a search in a sorted list for each of its cells and each other
-- process, and a step for each race.
use Rattle.std.specs.Prelude.{ℕ, ◌+◌, ◌*◌, List, length}
use Rattle.std.specs.List.{sum_by}
use Rattle.ppd_race_found.specs.EdgeSets.{EdgeSets}
use Rattle.ppd_race_found.specs.SyncGraph.{SyncGraph}
use Rattle.ppd_race.specs.Union.{size_of}

-- of an edge, by its accesses
abbrev pub set_cost : EdgeSets → ℕ
set_cost sets = 1 + 385 * size_of sets

-- of the edges of a process
abbrev pub sets_cost : List EdgeSets → ℕ
sets_cost own = 1 + sum_by set_cost own

-- at least a look at each
abbrev pub sets_least : List EdgeSets → ℕ
sets_least own = 1 + length own

-- of all edges
abbrev pub work_of : SyncGraph → ℕ
work_of g = sum_by sets_cost g.edges

-- of a search: so much for each process, beside the races themselves
abbrev pub search_cost : SyncGraph → ℕ
search_cost g = (length g.edges + 4) * (work_of g + 2052)

-- and at least: two looks at each process, one at each edge, and the lists by cells that each process has
abbrev pub search_least : SyncGraph → ℕ
search_least g = 2050 * length g.edges + sum_by sets_least g.edges
