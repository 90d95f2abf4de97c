-- That all is answered of a run by replays of single e-blocks, each from its own log, and what they cost.
use Rattle.std.specs.Prelude.{◌≡◌, ℕ, ◌+◌, ◌*◌, ◌<◌, ◌≤◌, ℤ, List, [], length, slice_get, Option, Some, None, Ok, get_or}
use Rattle.ppd_model.specs.Replay.{replay}
use Rattle.ppd_model.specs.declared.entry.Logs.{Logs}
use Rattle.ppd_model.specs.IntervalLogs.{IntervalLog, interval_log}
use Rattle.ppd_session.specs.Answers.{IsEdges}
use Rattle.ppd_flow_past.specs.declared.past.Past.{Past}
use Rattle.ppd_flow_past.specs.PastSetting.{past_setting}
use Rattle.ppd_model.specs.Setting.{Setting}
use Rattle.ppd_flow_past.specs.SeenBy.{failed_at, own_steps_of}
use Rattle.ppd_flow_shared.specs.SharedCells.{IsLastFound}
use Rattle.ppd_model.specs.declared.flow.FlowEdge.{FlowEdge}
use Rattle.ppd_model.specs.declared.flow.Item.{Item}
use Rattle.ppd_model.specs.declared.flow.Origin.{Origin}
use Rattle.ppd_model.specs.FlowbackEdges.{last}
use Rattle.ppd_model.specs.NearIntervals.{last_steps, near_steps}
use Rattle.ppd_session.specs.Known.{Known, Told, flow_by, last_by, told_by}
use Rattle.ppd_session.specs.Texts.{flow_at, told_at}
use Rattle.law_flow.specs.Costs.Bounds.{steps_in}
use Rattle.law_headline.specs.Answered.{HasEdges}
use Rattle.law_headline.specs.Runs.{Run, logs_in, plan_in, splits_in, story_in, setting_in}

-- ---- what is answered

-- what the replay of an e-block's interval tells, from the interval's own log alone
abbrev pub told_by_replay : Run → Option IntervalLog → Option Told
told_by_replay r None = None
told_by_replay r (Some log) = Some (told_by (replay r.program (plan_in r) log r.budget).answer)

-- the items of each interval are what its own replay gives, and the edges of an item and the last values are found by
-- the replays of the intervals that the search for them names
pub record AreByReplays (r : Run) (x : Known) : Type 0 where
  pub intervals : (p k : ℕ)
      → told_at x p k ≡ told_by_replay r (interval_log (plan_in r) (get_or (logs_in r).lists p []) k)
  pub edges : (p k j : ℕ) (items : List Item) → told_at x p k ≡ Some (Ok items) → j < length items
      → flow_at x p k j ≡ flow_by (setting_in r) (logs_in r) p k j
  pub lasts : (c : ℕ) → c < length r.program.starts
      → slice_get x.lasts c ≡ Some (last_by (setting_in r) (logs_in r) c)

-- ---- what is replayed for it

-- what is kept of a run, of which all is answered; the intervals that are replayed are those of `cut`, but for those of
-- which the items are kept
pub record Kept : Type 0 where
  pub setting : Setting
  pub logs : Logs
  pub cut : Logs
  pub kept : List (List (List Item))

abbrev pub kept_of_past : Past → Kept
kept_of_past past = record {
  setting = past_setting past;
  logs = past.logs.now;
  cut = past.cut.now;
  kept = past.kept.now;
}

-- of this run, with no log cut and nothing replayed before
abbrev pub kept_of : Run → Kept
kept_of r = record {
  setting = setting_in r;
  logs = logs_in r;
  cut = logs_in r;
  kept = [];
}

-- no replay fails, and each takes just its interval's own steps. Whatever is answered of what is kept of the run as
-- `edges` of `ppd_flow` answers, by its clause `found`, are the item's edges; its counter rises by just the steps of
-- the replays that the clause lists, and for n edges by at most 2 (n + 1) times the own steps of the intervals near to
-- the item. So of `last`, by at most those of the intervals that are open where the last write is
pub record ReplaysAreFew (r : Run) : Type 0 where
  pub none_fails : (p k : ℕ) → failed_at (setting_in r) (get_or (logs_in r).lists p []) k ≡ None
  pub own_steps : (p k : ℕ)
      → own_steps_of (setting_in r) (get_or (logs_in r).lists p []) k
      ≡ steps_in (slice_get (splits_in r r.schedule) p) k
  pub edges : (past : Past) (p k j before after : ℕ) (es found : List FlowEdge) → kept_of_past past ≡ kept_of r
      → HasEdges r r.schedule p k j es → IsEdges past p k j before after (Ok found)
      → (found ≡ es) × (after ≤ before
      + 2 * (length es + 1) * near_steps (setting_in r) (story_in r r.schedule) p k j)
  pub lasts : (past : Past) (c before after : ℕ) (found : ℤ × Origin) → kept_of_past past ≡ kept_of r
      → c < length r.program.starts → IsLastFound past c before after (Ok found)
      → (found ≡ last (setting_in r) (story_in r r.schedule) c)
      × (after ≤ before + last_steps (setting_in r) (story_in r r.schedule) c)

-- both
pub record AreByReExecuting (r : Run) (x : Known) : Type 0 where
  pub answers : AreByReplays r x
  pub replays : ReplaysAreFew r
