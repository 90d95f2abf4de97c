-- Answers that are found by replays of intervals: what they are, when they fail, and what they cost.
use Rattle.ppd_model.specs.Setting.{Setting}
use Rattle.std.specs.Prelude.{◌≡◌, ℕ, ◌+◌, List, [], ◌∷◌, sum_by, Option, Some, None, Result, Ok, Err, ⊤, get_or}
use Rattle.ppd_model.specs.declared.entry.At.{At}
use Rattle.ppd_model.specs.declared.entry.Logs.{Logs}
use Rattle.ppd_model.specs.declared.flow.Item.{Item}
use Rattle.ppd_model.specs.declared.flow_error.FlowError.{FlowError}
use Rattle.ppd_model.specs.declared.flow_error.FlowError.TheVariants.{Diverged, NoEvent, Sets, Memory}
use Rattle.ppd_flow_past.specs.declared.past.Past.{Past}
use Rattle.ppd_flow_past.specs.Pasts.{items_kept}
use Rattle.ppd_flow_past.specs.PastSetting.{past_setting}
use Rattle.ppd_flow_past.specs.SeenBy.{failed_at, failed_in, items_in, steps_in}

-- the failure of a replay of process p, if it fails, else this
abbrev pub failure_or : ℕ → Option ℕ → Option At → Option At
failure_or p None rest = rest
failure_or p (Some n) rest = Some (record { process = p; entry = n })

-- the failure of the first that fails of the replays of these intervals, each by its process
abbrev pub first_failed : Setting → Logs → List (ℕ × ℕ) → Option At
first_failed setting logs [] = None
first_failed setting logs (m ∷ ms) =
    failure_or m.0 (failed_at setting (get_or logs.lists m.0 []) m.1)
    (first_failed setting logs ms)

-- of a past
abbrev pub first_failed_in : Past → List (ℕ × ℕ) → Option At
first_failed_in past ms = first_failed (past_setting past) past.cut.now ms

-- these steps, where no items are kept
abbrev pub unless_kept : Option (List Item) → ℕ → ℕ
unless_kept None steps = steps
unless_kept (Some items) steps = 0

-- the steps of interval k of process p, unless its items are kept, so that it is not replayed
abbrev pub steps_to_replay : Past → (p k : ℕ) → ℕ
steps_to_replay past p k = unless_kept (items_kept past.kept.now p k) (steps_in past p k)

-- the steps that the replays of these intervals take
abbrev pub cost : Past → List (ℕ × ℕ) → ℕ
cost past ms = sum_by (λ m. steps_to_replay past m.0 m.1) ms

-- what is answered by replays of these intervals in this order, each by its process: this answer, where none fails,
-- and then the counter rose by their own steps; else the failure of the first that fails. Want of memory is free
abbrev pub IsFoundBy : {A : Type 0} → Past → List (ℕ × ℕ) → Result A FlowError → (before after : ℕ)
    → Result A FlowError → Type 0
IsFoundBy past ms answer before after (Ok x) =
    (first_failed_in past ms ≡ None) × (answer ≡ Ok x) × (after ≡ before + cost past ms)
IsFoundBy past ms answer before after (Err NoEvent) = (first_failed_in past ms ≡ None) × (answer ≡ Err NoEvent)
IsFoundBy past ms answer before after (Err (Sets p n c)) = (first_failed_in past ms ≡ None)
    × (answer ≡ Err (Sets p n c))
IsFoundBy past ms answer before after (Err (Diverged p n)) =
    first_failed_in past ms ≡ Some (record { process = p; entry = n })
IsFoundBy past ms answer before after (Err Memory) = ⊤

-- the replay of interval k of process p does not fail, and gives these items
abbrev pub AreReplayed : Past → (p k : ℕ) → List Item → Type 0
AreReplayed past p k items = (failed_in past p k ≡ None) × (items ≡ items_in past p k)

-- what the replay of interval k of process p answers: its items, or where it fails. Want of memory is free
abbrev pub IsReplayed : Past → (p k : ℕ) → Result (List Item) FlowError → Type 0
IsReplayed past p k (Ok items) = AreReplayed past p k items
IsReplayed past p k (Err (Diverged q n)) = (q ≡ p) × (failed_in past p k ≡ Some n)
IsReplayed past p k (Err Memory) = ⊤
IsReplayed past p k (Err e) = ⊥

-- the replay of some interval of the process fails at this entry, or want of memory
abbrev pub IsReplayFailure : Past → FlowError → Type 0
IsReplayFailure past (Diverged q n) = (k : ℕ) × (failed_in past q k ≡ Some n)
IsReplayFailure past Memory = ⊤
IsReplayFailure past e = ⊥
