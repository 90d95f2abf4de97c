-- What the replay of an interval answers.
use Rattle.std.specs.Prelude.{◌≡◌, ℕ, List, [], ◌∷◌, Some, None, Result, Ok, Err, ⊤}
use Rattle.ppd_model.specs.declared.flow.Item.{Item}
use Rattle.ppd_flow_past.specs.declared.past.Past.{Past}
use Rattle.ppd_flow_past.specs.ByReplays.{first_failed_in}
use Rattle.ppd_flow_past.specs.SeenBy.{items_in}
use Rattle.ppd_whole_origins.specs.declared.whole_error.WholeError.{WholeError}
use Rattle.ppd_whole_origins.specs.declared.whole_error.WholeError.TheVariants.{Diverged, Memory}

-- the failure of the first that fails of these intervals' replays, or want of memory
abbrev pub IsFailure : Past → List (ℕ × ℕ) → WholeError → Type 0
IsFailure past ms (Diverged p n) = first_failed_in past ms ≡ Some (record { process = p; entry = n })
IsFailure past ms Memory = ⊤

-- the items of one interval
abbrev pub IsReplay : Past → ℕ × ℕ → Result (List Item) WholeError → Type 0
IsReplay past m (Ok items) = (first_failed_in past (m ∷ []) ≡ None) × (items ≡ items_in past m.0 m.1)
IsReplay past m (Err e) = IsFailure past (m ∷ []) e
