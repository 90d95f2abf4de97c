use Rattle.std.proofs.Common.{◌≡◌, ◌++◌, ◌+◌, ◌≤◌, ◌<◌, ◌^◌, List, drop, length, map, take}
use Rattle.std.specs.List.{All, sum_by}
use Rattle.ppd_index.specs.declared.row.Row.{Row}
use Rattle.ppd_index.specs.Refusals.{first_in_lists}
use Rattle.ppd_index.specs.Spending.{list_cost, list_least}
use Rattle.ppd_index.specs.Tables.{rows_of}
use Rattle.ppd_index.proofs.build.index_in.Given as goal

abbrev pub invariant-loop-p : goal.invariant-loop-p
invariant-loop-p g l = record {
  tables : l.tables ++ map (rows_of l.plan) (drop l.p l.lists) ≡ map (rows_of l.plan) l.lists;
  few : All (λ (rows : List Row). length rows < 2 ^ 32) l.tables;
  found : first_in_lists l.program l.plan l.p (drop l.p l.lists) ≡ first_in_lists l.program l.plan 0 l.lists;
  least : l.fn.steps + sum_by list_least (take l.p l.lists) ≤ l.steps;
  spent : l.steps ≤ l.fn.steps + sum_by list_cost (take l.p l.lists);
}
