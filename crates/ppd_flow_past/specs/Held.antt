-- The items of an interval, owned or lent.
use Rattle.std.specs.Prelude.{List}
use Rattle.ppd_model.specs.declared.flow.Item.{Item}
use Rattle.ppd_flow_past.specs.declared.items.Held.{Held}
use Rattle.ppd_flow_past.specs.declared.items.Held.TheVariants.{Kept, Replayed}

abbrev pub items_held : Held → List Item
items_held (Kept items) = items.now
items_held (Replayed items) = items
