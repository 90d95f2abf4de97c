-- The internal edge in which an item lies, and the place at which an internal edge ends, by the process's entries.
use Rattle.std.specs.Prelude.{ℕ, zero, suc, ◌+◌, ◌-◌, nat_eq, nat_le, nat_lt, Bool, true, false, ◌&&◌, List, [], ◌∷◌, length, take, slice_get, sum_by, filter_map, unwrap_or, Option, Some, None, is_some, if◌then◌else◌, get_or}
use Rattle.std.specs.Option.{option_map_or}
use Rattle.ppd_graph.specs.Entry.{Entry}
use Rattle.ppd_graph.specs.Entry.TheVariants as entry
use Rattle.ppd_model.specs.declared.flow.Item.{Item}
use Rattle.ppd_model.specs.declared.flow.Item.TheVariants as item
use Rattle.ppd_model.specs.Extents.{Extent, extents}
use Rattle.ppd_model.specs.RecordedSets.{sync_in}
use Rattle.ppd_graph.specs.Seen.{Seen}

-- ---- the edge of a place

-- how many synchronizations stand before entry n
abbrev pub syncs_before : List Entry → ℕ → ℕ
syncs_before entries n = length (filter_map sync_in (take n entries))

-- how many synchronizations an interval has, with those of the intervals inside it
abbrev pub syncs_inside : List Entry → Option Extent → ℕ
syncs_inside entries None = 0
syncs_inside entries (Some x) = syncs_before entries (unwrap_or x.last 0) - syncs_before entries x.prelog

-- how many an item has: an event is one where it has a number
abbrev pub syncs_of_item : List Entry → Item → ℕ
syncs_of_item entries (item.Own e) = if is_some e.number then 1 else 0
syncs_of_item entries (item.Nested m b values closed) = syncs_inside entries (slice_get (extents entries) m)

-- the edge in which interval k begins: that of its prelog
abbrev pub first_edge : List Entry → ℕ → ℕ
first_edge entries k = option_map_or (λ x. syncs_before entries x.prelog) (slice_get (extents entries) k) 0

-- the internal edge in which place j of interval k lies: how many synchronizations the process did before it
abbrev pub edge_at : List Entry → Seen → ℕ → ℕ → ℕ
edge_at entries x k j = first_edge entries k + sum_by (syncs_of_item entries) (take j (get_or x.items k []))

-- ---- the end of an edge

-- a synchronization ends an edge, and the end of the process its last one
abbrev pub ends_edge : Entry → Bool
ends_edge (entry.Sync kind object number value reads writes) = true
ends_edge (entry.End status rest reads writes) = true
ends_edge e = false

-- the number of the entry that ends edge i, and the count of all where none does
abbrev pub ending : ℕ → List Entry → ℕ
ending i [] = 0
ending zero (e ∷ es) = if ends_edge e then 0 else suc (ending zero es)
ending (suc i) (e ∷ es) = if is_some (sync_in e) then suc (ending i es) else suc (ending (suc i) es)

-- the last of these intervals, which are numbered from k on, in which entry n stands, and m where there is none: it
-- stands after the prelog and not after the postlog, or the end inside it
abbrev pub innermost_from : ℕ → ℕ → ℕ → List Extent → ℕ
innermost_from n m k [] = m
innermost_from n m k (x ∷ xs) =
    innermost_from n (if nat_lt x.prelog n && nat_le n (unwrap_or x.last 0) then k else m) (k + 1) xs

abbrev pub is_sync_item : Item → Bool
is_sync_item (item.Own e) = is_some e.number
is_sync_item (item.Nested m b values closed) = false

-- the number of the item that is the synchronization of edge i, among items of which the first lies in edge n, and
-- the count of all where none is
abbrev pub sync_item : List Entry → ℕ → ℕ → List Item → ℕ
sync_item entries i n [] = 0
sync_item entries i n (t ∷ ts) =
    if is_sync_item t && nat_eq n i then 0 else suc (sync_item entries i (n + syncs_of_item entries t) ts)

-- the interval in which edge i ends: of a last edge the innermost one that was not left, or interval 0
abbrev pub end_interval : List Entry → ℕ → ℕ
end_interval entries i = innermost_from (ending i entries) 0 0 (extents entries)

-- and the place there: the item that is its synchronization; of a last edge the place after all items
abbrev pub end_item : List Entry → Seen → ℕ → ℕ
end_item entries x i =
    let k = end_interval entries i in
    sync_item entries i (first_edge entries k) (get_or x.items k [])
