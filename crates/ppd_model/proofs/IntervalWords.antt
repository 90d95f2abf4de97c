-- Words of the proofs for intervals and their items.
use Rattle.ppd_model.specs.Setting.{Setting}
use Rattle.std.specs.Option.{option_map_or}
use Rattle.std.specs.List.{enumerate_from}
use Rattle.std.specs.Prelude.{[], ◌∷◌, ℕ, List, Option, Some, map, slice_get, option_map, option_and_then, is_some}
use Rattle.ppd_model.specs.Intervals.{begin_span, end_span, split_of, items_of, place_in, Span, Split}
use Rattle.ppd_model.specs.declared.flow.Item.{Item}
use Rattle.ppd_model.specs.declared.flow.Origin.{Origin}
use Rattle.ppd_model.specs.declared.trace.EventId.{EventId}
use Rattle.ppd_model.specs.declared.trace.TracedEvent.{TracedEvent}
use Rattle.ppd_model.specs.Story.{Taken, Story}
use Rattle.ppd_model.specs.FullTrace.{Tag}
use Rattle.ppd_model.specs.Marks.{Mark}
use Rattle.ppd_model.specs.declared.flow.Item.TheVariants as item
use Rattle.ppd_model.specs.declared.flow.Origin.TheVariants as origin

-- an interval begins where a block is entered
abbrev pub begin_if : Option Mark → ℕ → Option EventId → Split → Split
begin_if o frame control x = option_map_or (λ (m : Mark). begin_span m.block frame control x) o x

-- the innermost interval ends where its block is left
abbrev pub end_if : Option Mark → List Tag → Split → Split
end_if o left x = option_map_or (λ (m : Mark). end_span m.values left x) o x

-- the item of interval m, if it is there
abbrev pub item_of_span : ℕ → Option Span → List Item
item_of_span m o = option_map_or (λ (i : Span). item.Nested m i.block i.values (is_some i.closed) ∷ []) o []

-- the item of an event, if it is there
abbrev pub item_of_event : Option TracedEvent → List Item
item_of_event o = option_map_or (λ (e : TracedEvent). item.Own e.event ∷ []) o []

-- the items of an interval that is there
abbrev pub items_at : Split → Option Span → Option (List Item)
items_at x o = option_map (items_of x) o

-- the items of interval k of a process that is there
abbrev pub items_in : ℕ → Option Split → Option (List Item)
items_in k o = option_and_then (λ (x : Split). option_map (items_of x) (slice_get x.spans k)) o

-- item j of interval k, or what is found otherwise
abbrev pub place_or : ℕ → Option ℕ → Option (ℕ × ℕ) → Option (ℕ × ℕ)
place_or k o otherwise = option_map_or (λ j. Some (k, j)) o otherwise

-- the item at a place of process p
abbrev pub item_at : ℕ → Option (ℕ × ℕ) → Origin
item_at p o = option_map_or (λ place. origin.Item p place.0 place.1) o origin.Entry

-- where the event is an item of its process
abbrev pub ref_in : EventId → Option Split → Origin
ref_in e o = option_map_or (λ (x : Split). item_at e.process (place_in e.number 0 x.spans)) o origin.Entry

-- the processes from number p on
abbrev pub splits_from : Setting → Story → ℕ → List (List Taken) → List Split
splits_from setting story p all =
    map (λ e. split_of setting story e.0 e.1) (enumerate_from p all)
