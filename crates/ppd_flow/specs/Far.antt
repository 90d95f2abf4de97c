-- The processes, but for its own, of which intervals are replayed for the edges of an item.
use Rattle.std.specs.Prelude.{◌≡◌, ℕ, ◌+◌, List, [], ◌∷◌, ◌++◌, slice_get, Option, Some, None, get_or}
use Rattle.ppd_ast.specs.declared.program.Program.{Program}
use Rattle.ppd_model.specs.declared.entry.Logs.{Logs}
use Rattle.ppd_graph.specs.declared.paired.Paired.{Paired}
use Rattle.ppd_graph.specs.declared.paired.Paired.TheVariants.{Node}
use Rattle.ppd_sem.specs.declared.event.Access.{Access}
use Rattle.ppd_sem.specs.declared.event.Event.{Event}
use Rattle.ppd_sem.specs.declared.event.Spot.{Spot}
use Rattle.ppd_sem.specs.declared.event.Spot.TheVariants.{Local, Shared}
use Rattle.ppd_model.specs.declared.flow.Item.{Item}
use Rattle.ppd_model.specs.declared.flow.Item.TheVariants as item
use Rattle.ppd_model.specs.declared.graph.EdgeId.{EdgeId}
use Rattle.ppd_graph.specs.Seen.{Seen}
use Rattle.ppd_graph.specs.Shared.{edge_of_place, greatest_before, of_process, pair_of, seen_at}
use Rattle.ppd_graph.specs.Walk.{walk}
use Rattle.ppd_flow_past.specs.declared.past.Past.{Past}
use Rattle.ppd_flow_past.specs.ByReplays.{cost}
use Rattle.ppd_flow_shared.specs.SharedCells.{edge_unless_found, seens_in}
use Rattle.ppd_flow_local.specs.declared.search.Place.{Place}
use Rattle.ppd_flow_local.specs.declared.search.Search.{Search}

-- ---- of an item

abbrev pub process_of : Option EdgeId → List ℕ
process_of None = []
process_of (Some a) = a.process ∷ []

-- for a read of a spot at place j of interval k of process p: that of the earlier edge in which a shared cell was
-- written
abbrev pub far_of_spot : Program → Logs → List Seen → (p k j : ℕ) → Spot → List ℕ
far_of_spot program logs xs p k j (Local frame c) = []
far_of_spot program logs xs p k j (Shared c) =
    process_of
    (edge_unless_found (walk (seen_at xs p) c k j).found
    (greatest_before program logs (edge_of_place logs xs p k j) c))

abbrev pub far_of_reads : Program → Logs → List Seen → (p k j : ℕ) → List Access → List ℕ
far_of_reads program logs xs p k j [] = []
far_of_reads program logs xs p k j (a ∷ as') =
    far_of_spot program logs xs p k j a.spot ++ far_of_reads program logs xs p k j as'

-- for a synchronization: that of its pair
abbrev pub far_of_pair : Paired → List ℕ
far_of_pair (Node a) = a.process ∷ []
far_of_pair pair = []

abbrev pub far_of_sync : Program → Logs → List Seen → (p k j : ℕ) → Option ℕ → List ℕ
far_of_sync program logs xs p k j None = []
far_of_sync program logs xs p k j (Some number) = far_of_pair (pair_of program logs xs p k j)

abbrev pub far_of_item : Program → Logs → List Seen → (p k j : ℕ) → Option Item → List ℕ
far_of_item program logs xs p k j (Some (item.Own e)) =
    far_of_reads program logs xs p k j e.reads ++ far_of_sync program logs xs p k j e.number
far_of_item program logs xs p k j t = []

-- ---- of a past

-- for item j of interval k of process p
abbrev pub far_in : Past → (p k j : ℕ) → List ℕ
far_in past p k j =
    far_of_item past.program.now past.logs.now (seens_in past) p k j
    (slice_get (get_or (seen_at (seens_in past) p).items k []) j)

-- the counter rose by the own steps of intervals of process p alone
abbrev pub RoseWithin : Past → (p before after : ℕ) → Type 0
RoseWithin past p before after = (ks : List ℕ) × (after ≡ before + cost past (of_process p ks))

-- ---- of a place

abbrev pub far_of_spot_at : Search → Place → Spot → List ℕ
far_of_spot_at s place spot =
    far_of_spot s.past.now.program.now s.past.now.logs.now (seens_in s.past.now) s.process
    place.interval place.item spot

abbrev pub far_of_reads_at : Search → Place → List Access → List ℕ
far_of_reads_at s place reads =
    far_of_reads s.past.now.program.now s.past.now.logs.now (seens_in s.past.now) s.process place.interval place.item
    reads

abbrev pub far_of_sync_at : Search → Place → Option ℕ → List ℕ
far_of_sync_at s place number =
    far_of_sync s.past.now.program.now s.past.now.logs.now (seens_in s.past.now) s.process place.interval place.item
    number

abbrev pub far_of_event : Search → Place → Event → List ℕ
far_of_event s place e = far_of_reads_at s place e.reads ++ far_of_sync_at s place e.number
