-- What the tables hold of the entries of a process and of the items of an interval.
use Rattle.std.specs.Prelude.{◌≡◌, ℕ, ◌+◌, ◌^◌, ◌<◌, ◌≤◌, nat_eq, Bool, false, ◌&&◌, List, get_or, length, slice_get, sum_by, take, Option, Some, None}
use Rattle.ppd_ast.specs.Members.{has}
use Rattle.ppd_model.specs.declared.entry.Entry.{Entry}
use Rattle.ppd_model.specs.declared.flow.Item.{Item}
use Rattle.ppd_model.specs.Extents.{extents}
use Rattle.ppd_graph.specs.Ends.{ends_edge, first_edge, is_sync_item, syncs_before, syncs_inside, syncs_of_item, innermost_from}
use Rattle.ppd_graph.specs.Seen.{is_item_of}
use Rattle.ppd_flow_tables.specs.declared.edge_table.EdgeTable.{EdgeTable}
use Rattle.ppd_flow_tables.specs.declared.marks.Mark.{Mark}
use Rattle.ppd_flow_tables.specs.declared.marks.Mark.TheVariants as mark
use Rattle.ppd_flow_tables.specs.declared.place_table.PlaceTable.{PlaceTable}
use Rattle.ppd_flow_tables.specs.Listed.{key}
use Rattle.ppd_flow_tables.specs.Stops.{is_border, writes_cell}

-- what is there passes the test
abbrev pub passes : {A : Type 0} → (A → Bool) → Option A → Bool
passes test None = false
passes test (Some t) = test t

-- these are the places at which the test of a number and a place holds
abbrev pub AreWhere : (ℕ → ℕ → Bool) → List ℕ → Type 0
AreWhere test keys = (n i : ℕ) → i < 2 ^ 32 → has keys (key n i) ≡ test n i

-- ---- the entries of a process

-- the entry there ends edge n
abbrev pub ends_there : List Entry → ℕ → ℕ → Bool
ends_there entries n i = passes (λ e. ends_edge e && nat_eq n (syncs_before entries i)) (slice_get entries i)

-- the table is that of these entries of a process
pub record IsEdgeTable (entries : List Entry) (t : EdgeTable) : Type 0 where
  pub first : (k : ℕ) → get_or t.spans.first k 0 ≡ first_edge entries k
  pub inside : (k : ℕ) → get_or t.spans.inside k 0 ≡ syncs_inside entries (slice_get (extents entries) k)
  pub count : t.count ≡ length entries
  pub few : length entries < 2 ^ 32
  pub ends : AreWhere (ends_there entries) t.ends.keys
  pub innermost : (n : ℕ) → n ≤ length entries → get_or t.innermost n 0 ≡ innermost_from n 0 0 (extents entries)

-- ---- the items of an interval

-- the edge of the place after the first j of these items of interval k
abbrev pub edge_of : List Entry → ℕ → List Item → ℕ → ℕ
edge_of entries k items j = first_edge entries k + sum_by (syncs_of_item entries) (take j items)

-- these are the edges of the places of these items of interval k
pub record AreEdges (entries : List Entry) (k : ℕ) (items : List Item) (edges : List ℕ) : Type 0 where
  pub are : (j : ℕ) → j ≤ length items → get_or edges j 0 ≡ edge_of entries k items j

-- an item of edge e is listed under number n: a synchronization under the edge that it ends, an inner interval under
-- its number, and a write under each cell that it writes; inner intervals and events with numbers are under 0
abbrev pub is_under : Mark → ℕ → ℕ → Item → Bool
is_under mark.Sync e n t = is_sync_item t && nat_eq n e
is_under mark.Inner e n t = is_item_of n t
is_under mark.Write e n t = writes_cell n t
is_under mark.Border e n t = is_border t && nat_eq n 0

abbrev pub is_marked : Mark → List ℕ → List Item → ℕ → ℕ → Bool
is_marked m edges items n i = passes (is_under m (get_or edges i 0) n) (slice_get items i)

-- the table is that of these items of interval k of a process with these entries
pub record IsPlaceTable (entries : List Entry) (k : ℕ) (items : List Item) (t : PlaceTable) : Type 0 where
  pub few : length items < 2 ^ 32
  pub count : t.count ≡ length items
  pub edges : AreEdges entries k items t.edges
  pub syncs : AreWhere (is_marked mark.Sync t.edges items) t.syncs.keys
  pub inner : AreWhere (is_marked mark.Inner t.edges items) t.inner.keys
  pub writes : AreWhere (is_marked mark.Write t.edges items) t.stops.writes.keys
  pub borders : AreWhere (is_marked mark.Border t.edges items) t.stops.borders.keys
