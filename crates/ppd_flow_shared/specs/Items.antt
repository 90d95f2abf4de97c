-- What comes of the intervals round one on the walk back over an internal edge.
use Rattle.std.specs.Prelude.{ℕ, Bool, true, false, List, [], ◌∷◌, get_or}
use Rattle.ppd_flow_tables.specs.SeenBy.{seen_in}
use Rattle.ppd_graph.specs.declared.walked.Walked.{Walked}
use Rattle.ppd_graph.specs.declared.walked.Walked.TheVariants.{Passed}
use Rattle.ppd_graph.specs.Looked.{Looked, known, after_replay}
use Rattle.ppd_graph.specs.Seen.{Seen, place_of}
use Rattle.ppd_graph.specs.Walk.{back_from, back_over, inside, walk_out}
use Rattle.ppd_flow_shared.specs.declared.search.CellSearch.{CellSearch}

-- what the replays of the process that is searched give
abbrev pub seen_for : CellSearch → Seen
seen_for s = seen_in s.past.now s.process

-- the start was reached
abbrev pub is_passed : Walked → Bool
is_passed Passed = true
is_passed w = false

-- over interval m, which is replayed first, before interval k inside it
abbrev pub before_inner : Seen → ℕ → ℕ → ℕ → Looked ℕ Walked
before_inner x c m k =
    after_replay m (back_over (inside x c) c m (back_from (place_of k (get_or x.items m [])) (get_or x.items m [])))

-- on from the start of interval k, through these intervals round it
abbrev pub out_of : Seen → ℕ → ℕ → List ℕ → Looked ℕ Walked
out_of x c k [] = known Passed
out_of x c k (m ∷ ms) = after_replay m (walk_out (inside x c) x c m (place_of k (get_or x.items m [])) ms)
