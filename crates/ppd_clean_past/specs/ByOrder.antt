-- Pasts with races, by the order of a graph and the first edge of each process in a race.
use Rattle.std.specs.Prelude.{ℕ, ◌+◌, nat_eq, nat_le, nat_lt, Bool, false, ◌&&◌, ◌||◌, List, length, Option, Some, None, if◌then◌else◌, get_or, []}
use Rattle.std.specs.List.{list_any}
use Rattle.law_clean.specs.Pasts.{is_same_edge}
use Rattle.ppd_clean_past.specs.declared.asked.Asked.{Asked}
use Rattle.ppd_model.specs.declared.entry.Logs.{Logs}
use Rattle.ppd_graph.specs.Ends.{is_sync_item}
use Rattle.ppd_flow_past.specs.declared.past.Past.{Past}
use Rattle.ppd_graph.specs.declared.sync_graph.SyncGraph.{SyncGraph}
use Rattle.ppd_graph.specs.Graphs.{is_before_by}
use Rattle.ppd_model.specs.declared.flow.Item.{Item}
use Rattle.ppd_model.specs.declared.graph.EdgeId.{EdgeId}
use Rattle.ppd_model.specs.HappenedBefore.{edge}
use Rattle.ppd_model.specs.RecordedSets.{record_in}

-- the number of process q's last edge
abbrev pub last_edge : Logs → ℕ → ℕ
last_edge logs q = length (get_or (record_in logs) q [])

-- edge a is edge e, or is before it
abbrev pub is_in_past : SyncGraph → EdgeId → EdgeId → Bool
is_in_past g e a = is_same_edge a e || is_before_by g a e

-- edge a ends before the synchronization that ends edge e
abbrev pub ends_before : SyncGraph → EdgeId → EdgeId → Bool
ends_before g e a =
    if nat_eq a.process e.process then nat_lt a.edge e.edge else is_before_by g a (edge e.process (e.edge + 1))

-- one of these does, where edge e is not the last of its process
abbrev pub leads_from_race : SyncGraph → List EdgeId → ℕ → EdgeId → Bool
leads_from_race g firsts last e = if nat_le last e.edge then false else list_any (ends_before g e) firsts

-- the item is the synchronization that ends edge e, and a race ends before it
abbrev pub is_led_to : Past → Asked → Item → EdgeId → Bool
is_led_to past a t e =
    is_sync_item t && leads_from_race past.graph.now a.firsts.now (last_edge past.logs.now e.process) e

-- the past of an item that lies in edge i has a race
abbrev pub is_unclean_at : Past → Asked → Item → ℕ → Option ℕ → Bool
is_unclean_at past a t i None = false
is_unclean_at past a t i (Some u) = nat_le u i || is_led_to past a t (edge a.process i)
