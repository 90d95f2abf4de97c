-- What a controlled re-execution answers of logs: the program runs under the recorded synchronization, and each
-- interval of the logs is replayed and compared with the run.
use Rattle.ppd_model.specs.Setting.{Setting}
use Rattle.std.specs.Prelude.{◌≡◌, ℕ, ◌<◌, List, [], length, get_or, Option, Some, None, Ok, ⊤}
use Rattle.ppd_model.specs.IntervalLogs.{interval_log}
use Rattle.ppd_model.specs.declared.entry.Logs.{Logs}
use Rattle.ppd_model.specs.Replay.{Replayed}
use Rattle.ppd_model.specs.declared.flow.Item.{Item}
use Rattle.ppd_model.specs.Intervals.{items as items_of_interval}
use Rattle.ppd_model.specs.Record.{sync_record}
use Rattle.ppd_model.specs.RecordedSets.{record_in}
use Rattle.ppd_model.specs.Schedule.{IsWhole}
use Rattle.ppd_model.specs.Story.{story}
use Rattle.law_steps.specs.Theorem.Laws.{replay_of}
use Rattle.ppd_rerun_guide.specs.declared.verdict.No.TheVariants.{Record, Interval}
use Rattle.ppd_rerun_guide.specs.declared.verdict.Verdict.{Verdict}
use Rattle.ppd_rerun_guide.specs.declared.verdict.Verdict.TheVariants as verdict
use Rattle.ppd_rerun_guide.specs.Guided.{guided}

-- the schedule is whole, and its record is that of the logs
pub record HasRecordOf (setting : Setting) (logs : Logs) (h : List ℕ) : Type 0 where
  pub whole : IsWhole setting h
  pub record_is : sync_record setting h ≡ record_in logs

-- a replay and an interval's items: both are there, and these are the items that the replay gives; or neither is
abbrev pub Matches : Option Replayed → Option (List Item) → Type 0
Matches None None = ⊤
Matches (Some r) (Some items) = r.answer ≡ Ok (record { items = items })
Matches r items = ⊥

-- interval k of process p: the logs and the schedule both have it, and its replay gives its items; or neither has it
abbrev pub IsSame : Setting → Logs → List ℕ → ℕ → ℕ → Type 0
IsSame setting logs h p k =
    Matches (replay_of setting (interval_log setting.plan (get_or logs.lists p []) k))
    (items_of_interval setting (story setting h) p k)

-- the verdict on logs. Yes: the schedule is the guided one, it is whole with the record of the logs, and every interval
-- is the same. No, for the record: so many steps were taken, and the guided schedule is not whole or has another
-- record. No, for an interval: the record is followed, and this interval is the first, by process and number, that is
-- not the same
abbrev pub IsVerdict : Setting → Logs → Verdict → Type 0
IsVerdict setting logs (verdict.Yes h) =
    (h ≡ guided setting (record_in logs)) × HasRecordOf setting logs h
    × ((p k : ℕ) → IsSame setting logs h p k)
IsVerdict setting logs (verdict.No (Record taken)) =
    (taken ≡ length (guided setting (record_in logs)))
    × (HasRecordOf setting logs (guided setting (record_in logs)) → ⊥)
IsVerdict setting logs (verdict.No (Interval p k)) =
    let h = guided setting (record_in logs) in
    HasRecordOf setting logs h × (IsSame setting logs h p k → ⊥)
    × ((q m : ℕ) → q < p → IsSame setting logs h q m)
    × ((m : ℕ) → m < k → IsSame setting logs h p m)
