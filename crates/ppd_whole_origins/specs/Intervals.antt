-- The intervals of a past.
use Rattle.std.specs.Prelude.{ℕ, ◌+◌, List, [], ◌∷◌, ◌++◌, map, length}
use Rattle.std.specs.List.{range_with_len}
use Rattle.ppd_flow_past.specs.declared.past.Past.{Past}
use Rattle.ppd_graph.specs.Seen.{Seen}
use Rattle.ppd_flow_shared.specs.SharedCells.{seens_in}

-- the intervals of process p, of which this is seen
abbrev pub intervals_of : ℕ → Seen → List (ℕ × ℕ)
intervals_of p x = map (λ k. (p, k)) (range_with_len 0 (length x.items))

-- those of the processes from number p on
abbrev pub intervals_from : ℕ → List Seen → List (ℕ × ℕ)
intervals_from p [] = []
intervals_from p (x ∷ xs) = intervals_of p x ++ intervals_from (p + 1) xs

-- all intervals, by process and number
abbrev pub all_intervals : Past → List (ℕ × ℕ)
all_intervals past = intervals_from 0 (seens_in past)
