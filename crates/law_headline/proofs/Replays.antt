-- What is told of a run without a race is found by replays of single intervals, each from its own log.
use Rattle.ppd_race.specs.Races.{races_among, edges_of_logs}
use Rattle.std.specs.Prelude.{None, Some, option_map, slice_get}
use Rattle.std.proofs.Common.{◌≡◌, ℕ, ◌+◌, ◌<◌, [], Option, arith, get_or, length, map, refl, ap, ◌∙◌, subst}
use Rattle.ppd_ast.specs.Valid.{IsValid}
use Rattle.ppd_model.specs.Replay.{replay}
use Rattle.ppd_model.specs.IntervalLogs.{LoggedInterval, indexed, interval_log, log_by}
use Rattle.ppd_model.proofs.EntryWords.{log_in}
use Rattle.ppd_model.specs.Races.{races}
use Rattle.ppd_model.specs.Schedule.{IsWhole}
use Rattle.ppd_session.specs.Laws.{LogsTellRuns}
use Rattle.ppd_session.specs.Known.{Known, flow_by, known_of_logs, known_of_run, last_by, told_by, told_of_entries, unless_raced}
use Rattle.ppd_session.specs.Texts.{told_at}
use Rattle.ppd_session.proofs.Tables.{cell_at, flow_inside, told_logs}
use Rattle.law_headline.specs.Replayed.{AreByReplays, told_by_replay}
use Rattle.law_headline.specs.Runs.{Run, logs_in, plan_in, setting_in}
use Rattle.ppd_session.proofs.KnownWords.{of_cells}

replayed : (r : Run) (o : Option LoggedInterval) → option_map (λ (i : LoggedInterval). told_by (replay r.program (plan_in r) (log_by (plan_in r) i) r.budget).answer) o ≡ told_by_replay r (log_in (plan_in r) o)
replayed r None = refl
replayed r (Some i) = refl

module _ (r : Run) (free : races_among (edges_of_logs r.program (logs_in r)) ≡ []) where
  abbrev known : Known
  known = known_of_logs (setting_in r) (logs_in r)

  told_is : (p k : ℕ) → told_at known p k ≡ told_by_replay r (interval_log (plan_in r) (get_or (logs_in r).lists p []) k)
  told_is p k =
      ap (λ rs. slice_get (get_or (unless_raced rs (map (told_of_entries (setting_in r)) (logs_in r).lists)) p []) k) free
      ∙ (told_logs (setting_in r) (logs_in r).lists p k
      ∙ replayed r (slice_get (indexed (get_or (logs_in r).lists p [])) k))

  last_is : (c : ℕ) → c < length r.program.starts → slice_get known.lasts c ≡ Some (last_by (setting_in r) (logs_in r) c)
  last_is c lt =
      let z : 0 + c ≡ c = omega arith in
      ap (λ rs. slice_get (unless_raced rs (of_cells (last_by (setting_in r) (logs_in r)) 0 (length r.program.starts))) c) free
      ∙ (cell_at (last_by (setting_in r) (logs_in r)) 0 (length r.program.starts) c lt
      ∙ ap (λ i. Some (last_by (setting_in r) (logs_in r) i)) z)

  by_logs : AreByReplays r known
  by_logs = record {
    intervals = told_is;
    edges = λ p k j items told lt. flow_inside (flow_by (setting_in r) (logs_in r)) known.items p k j items told lt;
    lasts = last_is;
  }

pub by_replays : LogsTellRuns → (r : Run) → IsValid r.program → IsWhole (setting_in r) r.schedule → races (setting_in r) r.schedule ≡ []
    → AreByReplays r (known_of_run (setting_in r) r.schedule)
by_replays tell r valid whole none =
    let same = tell r.program r.policy r.budget r.schedule valid whole in
    let free : races_among (edges_of_logs r.program (logs_in r)) ≡ [] = ap (λ (x : Known). x.races) same ∙ none in
    subst (AreByReplays r) same (by_logs r free)
