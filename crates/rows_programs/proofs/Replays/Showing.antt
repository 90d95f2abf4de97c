-- What the rows state: an interval of a process, replayed from its log and as the model has it.
use Rattle.ppd_model.specs.Setting.{Setting}
use Rattle.std.specs.Prelude.{◌≡◌, ℕ, List, [], map, get_or, slice_get, Option, Some, None, Ok}
use Rattle.ppd_model.specs.declared.entry.Entry.{Entry}
use Rattle.ppd_model.specs.IntervalLogs.{IntervalLog, LoggedInterval, indexed, interval_log, log_by}
use Rattle.ppd_model.specs.declared.flow.Item.{Item}
use Rattle.ppd_model.specs.Story.{story}
use Rattle.ppd_model.specs.Logs.{closed_logs}
use Rattle.ppd_model.specs.Intervals.{Split, Span, splits, items_of}
use Rattle.ppd_model.specs.Replay.{Replayed, replay}

-- the replay of each interval of these entries
abbrev pub replays_of : Setting → List Entry → List Replayed
replays_of setting entries = map (λ (i : LoggedInterval). replay setting.program setting.plan (log_by setting.plan i) setting.budget) (indexed entries)

-- the replay of an interval that is there
abbrev pub replay_of : Setting → Option IntervalLog → Option Replayed
replay_of setting None = None
replay_of setting (Some l) = Some (replay setting.program setting.plan l setting.budget)

-- the replay of interval k of process p in a schedule
abbrev pub replay_at : Setting → List ℕ → ℕ → ℕ → Option Replayed
replay_at setting h p k =
    replay_of setting (interval_log setting.plan (get_or (closed_logs setting h).lists p []) k)

-- a replay with these steps and items
abbrev pub gives : ℕ → List Item → Replayed
gives steps items = record { steps = steps; answer = Ok (record { items = items }) }

-- an interval's own steps and its items in the model, if it is there
abbrev pub modelled_of : Split → Option Span → Option Replayed
modelled_of x None = None
modelled_of x (Some i) = Some (gives i.steps (items_of x i))

-- the same for interval k of a process that is there
abbrev pub modelled_in : ℕ → Option Split → Option Replayed
modelled_in k None = None
modelled_in k (Some x) = modelled_of x (slice_get x.spans k)

-- the same for interval k of process p in a schedule
abbrev pub model_at : Setting → List ℕ → ℕ → ℕ → Option Replayed
model_at setting h p k = modelled_in k (slice_get (splits setting (story setting h)) p)

-- the replay gives these items and takes so many steps, and they are the interval's own of the model
pub record IsReplayed (setting : Setting) (h : List ℕ) (p k steps : ℕ) (items : List Item) : Type 0 where
  pub replayed : replay_at setting h p k ≡ Some (gives steps items)
  pub modelled : model_at setting h p k ≡ Some (gives steps items)

-- the process has no such interval, neither in its log nor in the model
pub record IsNoInterval (setting : Setting) (h : List ℕ) (p k : ℕ) : Type 0 where
  pub replayed : replay_at setting h p k ≡ None
  pub modelled : model_at setting h p k ≡ None
