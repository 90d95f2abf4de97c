use Rattle.std.proofs.Common.{◌≡◌, ℕ, ◌<◌, ◌≤◌, ◌+◌, [], get_or, length, take}
use Rattle.std.specs.List.{sum_by}
use Rattle.ppd_race.specs.Busy.{IsBusyRow}
use Rattle.ppd_race_found.specs.Search.{row_cost}
use Rattle.ppd_race.specs.Spending.{sets_cost, sets_least}
use Rattle.ppd_race.proofs.rows.busy_rows.Given as goal

abbrev pub invariant-loop-process : goal.invariant-loop-process
invariant-loop-process g l = record {
  long : length l.rows ≡ l.process;
  row : (q : ℕ) → q < l.process → IsBusyRow q (get_or l.sets q []) (get_or l.rows q []);
  size : sum_by row_cost l.rows ≤ sum_by sets_cost (take l.process l.sets);
  least : l.fn.steps + sum_by sets_least (take l.process l.sets) ≤ l.steps;
  spent : l.steps ≤ l.fn.steps + sum_by sets_cost (take l.process l.sets);
}
