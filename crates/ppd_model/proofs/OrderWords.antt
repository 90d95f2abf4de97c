-- Words of the proofs for synchronizations, their order and races.
use Rattle.std.specs.Option.{option_map_or}
use Rattle.std.specs.List.{enumerate_from, range_with_len, flat_map}
use Rattle.std.specs.Prelude.{◌+◌, ◌&&◌, ◌||◌, ℕ, List, Option, Some, Bool, not, map, length, nat_eq, is_some}
use Rattle.ppd_model.specs.HappenedBefore.{node, sync_at}
use Rattle.ppd_model.specs.declared.graph.NodeId.{NodeId}
use Rattle.ppd_model.specs.declared.graph.EdgeId.{EdgeId}
use Rattle.ppd_model.specs.Synchronizations.{Sync}
use Rattle.ppd_model.specs.Races.{Edges}
use Rattle.ppd_model.specs.declared.trace.EventId.{EventId}

-- b is there, and it is the next of its process
abbrev pub is_next : List (List Sync) → NodeId → NodeId → Bool
is_next syncs a b = nat_eq a.process b.process && nat_eq (a.sync + 1) b.sync && is_some (sync_at syncs b)

-- the synchronizations of the processes from number p on
abbrev pub nodes_from : ℕ → List (List Sync) → List NodeId
nodes_from p syncs = flat_map (λ e. map (node e.0) (range_with_len 0 (length e.1))) (enumerate_from p syncs)

-- neither is before the other
abbrev pub are_apart : Edges → EdgeId → EdgeId → Bool
are_apart e a b = not (e.before a b || e.before b a)

-- the edges of process p
abbrev pub own_edges : Edges → ℕ → List ℕ
own_edges e p = range_with_len 0 (e.count p)

-- event n of process p, or what is found otherwise
abbrev pub event_or : ℕ → Option ℕ → Option EventId → Option EventId
event_or p o otherwise = option_map_or (λ n. Some (record { process = p; number = n })) o otherwise
