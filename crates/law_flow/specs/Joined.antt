-- The events of a process in order, joined from the items that the replays of its intervals give.
use Rattle.std.specs.Prelude.{ℕ, zero, suc, List, [], ◌∷◌, length, get_or}
use Rattle.std.specs.List.{flat_map}
use Rattle.ppd_sem.specs.declared.event.Event.{Event}
use Rattle.ppd_model.specs.declared.flow.Item.{Item}
use Rattle.ppd_model.specs.declared.flow.Item.TheVariants as item
use Rattle.ppd_graph.specs.Seen.{Seen}

-- an item's events: an event is itself, and an interval what stands in it
abbrev pub events_of_item : (ℕ → List Event) → Item → List Event
events_of_item inner (item.Own e) = e ∷ []
events_of_item inner (item.Nested m b values closed) = inner m

-- the events of these items
abbrev pub events_of_items : (ℕ → List Event) → List Item → List Event
events_of_items inner items = flat_map (events_of_item inner) items

-- the events of interval m with those of the intervals inside it, each at its place; intervals inside it have larger
-- numbers, so that no more than all stand in one another
abbrev pub joined : ℕ → Seen → ℕ → List Event
joined zero x m = []
joined (suc n) x m = events_of_items (joined n x) (get_or x.items m [])

-- all events of a process
abbrev pub events_in : Seen → List Event
events_in x = joined (length x.items) x 0
