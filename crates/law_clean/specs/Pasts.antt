-- The past of an item, and whether a race touches it.
use Rattle.ppd_ast.specs.declared.program.Program.{Program}
use Rattle.ppd_model.specs.declared.entry.Entry.{Entry}
use Rattle.ppd_graph.specs.Ends.{first_edge, syncs_before}
use Rattle.ppd_model.specs.Extents.{extents}
use Rattle.ppd_model.specs.HappenedBefore.{edge, is_before, is_edge_before, node}
use Rattle.ppd_model.specs.Intervals.{Part, Split, nested, own}
use Rattle.ppd_model.specs.NearIntervals.{edge_of_event}
use Rattle.ppd_model.specs.Races.{edges_of_story, races_among}
use Rattle.ppd_model.specs.Record.{record_of}
use Rattle.ppd_model.specs.RecordedSets.{sync_in}
use Rattle.ppd_model.specs.Synchronizations.{Sync}
use Rattle.ppd_model.specs.declared.graph.EdgeId.{EdgeId}
use Rattle.ppd_model.specs.declared.graph.Race.{Race}
use Rattle.ppd_model.specs.declared.tracing.Story.{Story}
use Rattle.std.specs.List.{list_any, range_with_len}
use Rattle.std.specs.Option.{option_map_or}
use Rattle.std.specs.Prelude.{Bool, List, Option, [], false, filter_map, find, get_or, if◌then◌else◌, is_some, length, nat_eq, not, option_and_then, slice_get, unwrap_or, ℕ, ◌&&◌, ◌+◌, ◌-◌, ◌||◌}

-- ---- races that have an edge

-- an edge that passes the test is one of the two of a race
abbrev pub any_raced : (EdgeId → Bool) → List Race → Bool
any_raced test races = list_any (λ r. test (edge r.p r.i) || test (edge r.q r.j)) races

-- ---- the past of an edge

abbrev pub is_same_edge : EdgeId → EdgeId → Bool
is_same_edge a b = nat_eq a.process b.process && nat_eq a.edge b.edge

-- edge a is edge e, or is before it by this record of synchronizations
abbrev pub is_past : Program → List (List Sync) → EdgeId → EdgeId → Bool
is_past program rec e a = is_same_edge a e || is_edge_before program rec a e

-- some race has the edge
abbrev pub is_raced : List Race → EdgeId → Bool
is_raced races e = any_raced (λ a. is_same_edge a e) races

-- ---- the past of an item

-- the last edge of its process in which a step of an item lies, and whether the item is the synchronization
-- that ends that edge
pub record Lies : Type 0 where
  pub edge : ℕ
  pub ends : Bool

-- the edge in which interval m of these entries is left: that of its postlog, and the last edge where it has none
abbrev pub left_edge : List Entry → ℕ → ℕ
left_edge entries m =
    option_map_or
    (λ x. if x.closed then syncs_before entries (unwrap_or x.last 0) else length (filter_map sync_in entries))
    (slice_get (extents entries) m) 0

-- of a process with these entries
abbrev pub lies : List Entry → Split → Part → Lies
lies entries x (own n) = record {
  edge = edge_of_event x n;
  ends = is_some (option_and_then (λ e. e.event.number) (slice_get x.trace.events n));
}
lies entries x (nested m) = record { edge = left_edge entries m; ends = false }

-- no race has an edge of the past of an item of process p that lies so: that of its last edge, and for a
-- synchronization also every edge that ends in a synchronization before it
abbrev pub is_clean : Program → Story → ℕ → Lies → Bool
is_clean program s p l =
    not (any_raced (λ a. is_past program (record_of s) (edge p l.edge) a
    || (l.ends && is_before program (record_of s) (node a.process a.edge) (node p l.edge)))
    (races_among (edges_of_story program s)))

-- ---- where there is no clean item

-- the least edge of process p whose past has a race, from the one in which interval k of these entries begins through
-- the last
abbrev pub first_raced : Program → List (List Sync) → List Race → List Entry → (p k : ℕ) → Option ℕ
first_raced program rec races entries p k =
    find (λ i. any_raced (is_past program rec (edge p i)) races)
    (range_with_len (first_edge entries k) (length (get_or rec p []) + 1 - first_edge entries k))
