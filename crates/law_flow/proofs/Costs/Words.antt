-- What the bounds on the replays of an item's edges speak of.
use Rattle.ppd_model.specs.Setting.{Setting}
use Rattle.std.proofs.Common.{ℕ, List}
use Rattle.ppd_model.specs.declared.entry.Logs.{Logs}
use Rattle.ppd_model.specs.Intervals.{Split, splits}
use Rattle.ppd_model.specs.Logs.{closed_logs}
use Rattle.ppd_model.specs.NearIntervals.{near_steps}
use Rattle.ppd_model.specs.Story.{story}
use Rattle.ppd_graph.specs.Seen.{Seen}
use Rattle.law_flow.specs.Edges.SharedEdges.{all_seen}
use Rattle.law_flow.specs.Costs.Bounds.{steps_of_all}

-- the intervals, logs and items seen of a run, the steps near item j of interval k of process p, and those of intervals
pub record Words : Type 0 where
  pub xs : List Split
  pub logs : Logs
  pub seens : List Seen
  pub N : ℕ
  pub steps : List (ℕ × ℕ) → ℕ

abbrev pub words_of : Setting → List ℕ → ℕ → ℕ → ℕ → Words
words_of setting h p k j = record {
  xs = splits setting (story setting h);
  logs = closed_logs setting h;
  seens = all_seen setting h;
  N = near_steps setting (story setting h) p k j;
  steps = λ ms. steps_of_all (splits setting (story setting h)) ms;
}
