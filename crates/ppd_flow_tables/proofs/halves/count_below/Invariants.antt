use Rattle.std.proofs.Common.{◌≤◌, ◌+◌, ◌-◌, ◌*◌, ◌^◌, length}
use Rattle.ppd_flow_tables.proofs.Cut.{Halved}
use Rattle.ppd_flow_tables.proofs.halves.count_below.Given as goal

abbrev pub invariant-loop-low : goal.invariant-loop-low
invariant-loop-low g l = record {
  order : l.low ≤ l.high;
  within : l.high ≤ length l.numbers;
  halved : Halved l.limit l.numbers l.low l.high;
  on : l.fn.steps ≤ l.steps;
  spent : l.steps ≤ l.fn.steps + 64;
  halves : (l.high - l.low) * 2 ^ (l.steps - l.fn.steps) ≤ length l.numbers;
}

abbrev pub decreases-loop-low : goal.decreases-loop-low
decreases-loop-low g l = l.high - l.low
