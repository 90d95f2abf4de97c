-- Items that the walk back to a write of a shared cell does not simply pass.
use Rattle.std.specs.Prelude.{◌≡◌, ℕ, ◌+◌, ◌≤◌, Bool, true, false, List, length, Option, Some, None, is_some}
use Rattle.ppd_model.specs.declared.flow.Item.{Item}
use Rattle.ppd_model.specs.declared.flow.Item.TheVariants as item
use Rattle.ppd_graph.specs.declared.walked.Walked.{Walked}
use Rattle.ppd_graph.specs.Looked.{Looked}
use Rattle.ppd_graph.specs.Walk.{back_from, back_over, value_to}

-- an inner interval, or an event with a number
abbrev pub is_border : Item → Bool
is_border (item.Own e) = is_some e.number
is_border (item.Nested m b values closed) = true

-- an event that writes shared cell c
abbrev pub writes_cell : ℕ → Item → Bool
writes_cell c (item.Own e) = is_some (value_to c e.writes)
writes_cell c (item.Nested m b values closed) = false

-- the place after the item
abbrev pub after : Option ℕ → ℕ
after None = 0
after (Some i) = i + 1

-- the walk for cell c simply passes the items from place i up to place j: it comes to the same from either place, and
-- the same intervals are replayed for it
pub record ArePassed (c : ℕ) (items : List Item) (i j : ℕ) : Type 0 where
  pub within : i ≤ length items
  pub before : i ≤ j
  pub walked : (inner : ℕ → Looked ℕ Walked) (k : ℕ)
      → back_over inner c k (back_from j items) ≡ back_over inner c k (back_from i items)

-- the later of two places, if there is one
abbrev pub IsLater : (a b result : Option ℕ) → Type 0
IsLater None b result = result ≡ b
IsLater (Some i) None result = result ≡ Some i
IsLater (Some i) (Some j) result = (i ≤ j → result ≡ Some j) × (j ≤ i → result ≡ Some i)
