use Rattle.std.proofs.Common.{◌≤◌, ◌+◌, take}
use Rattle.std.specs.List.{sum_by}
use Rattle.ppd_race.specs.Busy.{IsBusyPart}
use Rattle.ppd_race_found.specs.Search.{edge_cost}
use Rattle.ppd_race.specs.Spending.{set_cost}
use Rattle.ppd_race.proofs.rows.busy_row.Given as goal

abbrev pub invariant-loop-edge : goal.invariant-loop-edge
invariant-loop-edge g l = record {
  part : IsBusyPart l.process l.own l.edge l.row;
  size : sum_by edge_cost l.row ≤ sum_by set_cost (take l.edge l.own);
  least : l.fn.steps + l.edge ≤ l.steps;
  spent : l.steps ≤ l.fn.steps + sum_by set_cost (take l.edge l.own);
}
