use Rattle.std.proofs.Common.{◌≡◌, ◌+◌, length}
use Rattle.ppd_flow_past.specs.Keeping.{AreFirstItems, sum_below}
use Rattle.ppd_flow_past.specs.SeenBy.{steps_in}
use Rattle.ppd_flow_past.proofs.kept_replays.replay_all.Given as goal

abbrev pub invariant-loop-interval : goal.invariant-loop-interval
invariant-loop-interval g l = record {
  first : AreFirstItems l.past l.process l.rows;
  count : length l.rows ≡ l.interval;
  cost : l.steps ≡ l.initial.steps + sum_below (steps_in l.past l.process) l.interval;
}
