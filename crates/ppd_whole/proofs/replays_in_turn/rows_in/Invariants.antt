use Rattle.std.proofs.Common.{◌≡◌, ◌+◌, None, map, take}
use Rattle.ppd_flow_past.specs.ByReplays.{first_failed_in}
use Rattle.ppd_flow_past.specs.SeenBy.{items_in}
use Rattle.ppd_whole_origins.specs.IntervalCosts.{replays_cost}
use Rattle.ppd_whole.proofs.replays_in_turn.rows_in.Given as goal

abbrev pub invariant-loop-job : goal.invariant-loop-job
invariant-loop-job g l = record {
  good : first_failed_in l.past (take l.job-index l.jobs) ≡ None;
  rows : l.rows ≡ map (λ m. items_in l.past m.0 m.1) (take l.job-index l.jobs);
  spent : l.steps ≡ l.fn.steps + replays_cost l.past (take l.job-index l.jobs);
}
