-- What is answered where an item is asked for among those of its interval.
use Rattle.std.specs.Prelude.{ℕ, ◌<◌, ◌≤◌, List, [], ◌∷◌, length, Result, Ok, Err}
use Rattle.ppd_model.specs.declared.flow.Item.{Item}
use Rattle.ppd_model.specs.declared.flow_error.FlowError.{FlowError}
use Rattle.ppd_model.specs.declared.flow_error.FlowError.TheVariants.{Diverged, NoEvent, Sets, Memory}
use Rattle.ppd_flow_past.specs.declared.past.Past.{Past}
use Rattle.ppd_flow_past.specs.ByReplays.{IsFoundBy}
use Rattle.ppd_flow_past.specs.SeenBy.{items_in}

-- the items of interval k of process p, found by its replay alone
abbrev pub AreItems : Past → (p k before after : ℕ) → Result (List Item) FlowError → Type 0
AreItems past p k before after result =
    IsFoundBy past ((p, k) ∷ []) (Ok (items_in past p k)) before after result

-- these, and item j is one of them; or it is none of them; or the replay fails
abbrev pub IsAsked : Past → (p k j before after : ℕ) → Result (List Item) FlowError → Type 0
IsAsked past p k j before after (Ok items) = AreItems past p k before after (Ok items) × (j < length items)
IsAsked past p k j before after (Err NoEvent) =
    AreItems past p k before after (Ok (items_in past p k)) × (length (items_in past p k) ≤ j)
IsAsked past p k j before after (Err (Diverged q n)) = AreItems past p k before after (Err (Diverged q n))
IsAsked past p k j before after (Err (Sets q n c)) = AreItems past p k before after (Err (Sets q n c))
IsAsked past p k j before after (Err Memory) = AreItems past p k before after (Err Memory)
