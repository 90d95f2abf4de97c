-- Pasts with races, wanted edges and cut logs, by the order of a graph and the first edge of each process in a race.
use Rattle.std.specs.Prelude.{ℕ, ◌-◌, nat_eq, nat_le, Bool, ◌&&◌, not, List, find, fold, Option, Some, None, unwrap_or, if◌then◌else◌, get_or, [], ◌+◌}
use Rattle.std.specs.List.{list_any, range_with_len}
use Rattle.law_clean.specs.Cuts.{cut_logs}
use Rattle.law_clean.specs.Pasts.{left_edge}
use Rattle.ppd_clean_past.specs.declared.asked.Asked.{Asked}
use Rattle.ppd_clean_past.specs.ByOrder.{is_in_past, is_unclean_at, last_edge}
use Rattle.ppd_model.specs.declared.entry.Logs.{Logs}
use Rattle.ppd_graph.specs.Ends.{edge_at, syncs_before}
use Rattle.ppd_graph.specs.Seen.{Seen}
use Rattle.ppd_flow_past.specs.declared.past.Past.{Past}
use Rattle.ppd_graph.specs.declared.sync_graph.SyncGraph.{SyncGraph}
use Rattle.ppd_graph.specs.Graphs.{is_before_by}
use Rattle.ppd_index.specs.declared.interval.Interval.{Interval}
use Rattle.ppd_model.specs.declared.flow.Item.{Item}
use Rattle.ppd_model.specs.declared.flow.Item.TheVariants as item
use Rattle.ppd_model.specs.declared.graph.EdgeId.{EdgeId}
use Rattle.ppd_model.specs.HappenedBefore.{edge}

-- ---- pasts

-- the past of edge e has one of these
abbrev pub has_race : SyncGraph → List EdgeId → EdgeId → Bool
has_race g firsts e = list_any (is_in_past g e) firsts

-- the least edge of process p, from one through another, whose past has one of these
abbrev pub first_unclean : SyncGraph → List EdgeId → (p from last : ℕ) → Option ℕ
first_unclean g firsts p from last = find (λ i. has_race g firsts (edge p i)) (range_with_len from (last + 1 - from))

-- ---- wanted edges

-- one of these is edge e, or before it in its process
abbrev pub is_raced_to : List EdgeId → EdgeId → Bool
is_raced_to firsts e = list_any (λ a. nat_eq a.process e.process && nat_le a.edge e.edge) firsts

abbrev pub is_wanted : SyncGraph → List EdgeId → (top e : EdgeId) → Bool
is_wanted g firsts top e = is_before_by g e top && not (is_raced_to firsts e)

abbrev pub later : Bool → ℕ → Option ℕ → Option ℕ
later test i found = if test then Some i else found

-- the last that is wanted of the first n edges of process q
abbrev pub last_before : SyncGraph → List EdgeId → EdgeId → (q n : ℕ) → Option ℕ
last_before g firsts top q n =
    fold (λ found i. later (is_wanted g firsts top (edge q i)) i found) None (range_with_len 0 n)

abbrev pub own_last : ℕ → Option ℕ → Option ℕ
own_last last None = Some last
own_last last (Some i) = if nat_eq i 0 then None else Some (i - 1)

-- the last edge that is wanted of process q for what is asked
abbrev pub last_wanted : Past → Asked → ℕ → Option ℕ
last_wanted past a q =
    let own = last_edge past.logs.now a.process in
    if nat_eq q a.process then own_last own a.first
    else last_before past.graph.now a.firsts.now (edge a.process (unwrap_or a.first own)) q (last_edge past.logs.now q)

-- the logs that are cut for it
abbrev pub cut_for : Past → Asked → Logs
cut_for past a = cut_logs (last_wanted past a) past.logs.now

-- ---- the edge of an item

-- the edge in which an interval of process p is left
abbrev pub left_at : Logs → ℕ → Interval → ℕ
left_at logs p i = if i.closed then syncs_before (get_or logs.lists p []) i.last else last_edge logs p

-- of an item that is asked, in a process of which this is seen
abbrev pub edge_of_item : Past → Asked → Seen → Item → ℕ
edge_of_item past a x (item.Own e) = edge_at (get_or past.logs.now.lists a.process []) x a.interval a.item
edge_of_item past a x (item.Nested m b values closed) = left_edge (get_or past.logs.now.lists a.process []) m

abbrev pub is_unclean : Past → Asked → Seen → Item → Bool
is_unclean past a x t = is_unclean_at past a t (edge_of_item past a x t) a.first
