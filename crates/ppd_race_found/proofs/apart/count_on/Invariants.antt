use Rattle.std.proofs.Common.{◌≤◌, ◌+◌, ◌-◌, ◌*◌, ◌^◌, length}
use Rattle.ppd_race_found.specs.Search.{is_on}
use Rattle.ppd_race_found.proofs.Halves.{Halved}
use Rattle.ppd_race_found.proofs.apart.count_on.Given as goal

abbrev pub invariant-loop-low : goal.invariant-loop-low
invariant-loop-low g l = record {
  order : l.low ≤ l.high;
  within : l.high ≤ length l.list;
  halved : Halved (is_on l.graph l.side l.b) l.list l.low l.high;
  on : l.fn.steps ≤ l.steps;
  spent : l.steps ≤ l.fn.steps + 64;
  some : length l.list + 2 ≤ (l.high - l.low + 2) * 2 ^ (l.steps - l.fn.steps);
  halves : (l.high - l.low) * 2 ^ (l.steps - l.fn.steps) ≤ length l.list;
}

abbrev pub decreases-loop-low : goal.decreases-loop-low
decreases-loop-low g l = l.high - l.low
