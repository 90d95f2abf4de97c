-- What replays of a process's intervals give, of any logs.
use Rattle.ppd_flow_past.specs.PastSetting.{past_setting}
use Rattle.ppd_model.specs.Setting.{Setting}
use Rattle.std.specs.Result.{result_err, result_unwrap_or}
use Rattle.ppd_emul.specs.BlockTrace.{BlockTrace}
use Rattle.ppd_emul.specs.EmulError.{EmulError}
use Rattle.ppd_emul.specs.EmulError.TheVariants.{Diverged, Memory}
use Rattle.ppd_emul.specs.Laws.{replay_of}
use Rattle.ppd_emul.specs.Replay.{Replayed, replay}
use Rattle.ppd_model.specs.IntervalLogs.{indexed, interval_log, log_by}
use Rattle.ppd_model.specs.declared.entry.Entry.{Entry}
use Rattle.ppd_graph.specs.Seen.{Seen}
use Rattle.ppd_flow_past.specs.declared.past.Past.{Past}
use Rattle.ppd_model.specs.Extents.{extents}
use Rattle.ppd_model.specs.declared.flow.Item.{Item}
use Rattle.std.specs.Option.{option_map_or}
use Rattle.std.specs.Prelude.{Err, List, None, Ok, Option, Result, Some, [], fold, get_or, map, option_and_then, ℕ, ◌++◌, ◌∷◌}

-- ---- one replay

-- what is told by it: its items, or the entry at which it cannot go on
abbrev pub told_by : Result BlockTrace EmulError → Result (List Item) ℕ
told_by (Ok trace) = Ok trace.items
told_by (Err (Diverged n w f)) = Err n
told_by (Err Memory) = Ok []

abbrev pub steps_of : Option Replayed → ℕ
steps_of None = 0
steps_of (Some r) = r.steps

-- the entry at which the replay of interval k of these entries fails, if it is there
abbrev pub failed_at : Setting → List Entry → ℕ → Option ℕ
failed_at setting entries k =
    option_and_then (λ r. result_err (told_by r.answer)) (replay_of setting (interval_log setting.plan entries k))

-- the steps that the replay of interval k takes
abbrev pub own_steps_of : Setting → List Entry → ℕ → ℕ
own_steps_of setting entries k = steps_of (replay_of setting (interval_log setting.plan entries k))

-- ---- all of a process

-- the intervals round each, the innermost first: from the one directly round it, and from those round each before
abbrev pub rounds_by : List (Option ℕ) → List (List ℕ)
rounds_by parents =
    fold (λ rounds parent. rounds ++ option_map_or (λ k. k ∷ get_or rounds k []) parent [] ∷ []) [] parents

-- the items of each interval by its replay, its block, and the intervals round it
abbrev pub seen_by : Setting → List Entry → Seen
seen_by setting entries = record {
  items = map (λ i. result_unwrap_or
      (told_by (replay setting.program setting.plan (log_by setting.plan i) setting.budget).answer) [])
      (indexed entries);
  blocks = map (λ x. x.block) (extents entries);
  rounds = rounds_by (map (λ x. x.parent) (extents entries));
}

-- ---- of a past

abbrev pub seen_in : Past → ℕ → Seen
seen_in past p = seen_by (past_setting past) (get_or past.cut.now.lists p [])

abbrev pub items_in : Past → ℕ → ℕ → List Item
items_in past p k = get_or (seen_in past p).items k []

abbrev pub failed_in : Past → ℕ → ℕ → Option ℕ
failed_in past p k = failed_at (past_setting past) (get_or past.cut.now.lists p []) k

abbrev pub steps_in : Past → ℕ → ℕ → ℕ
steps_in past p k = own_steps_of (past_setting past) (get_or past.cut.now.lists p []) k
