use Rattle.std.proofs.Common.{◌≤◌, ◌+◌, ◌*◌}
use Rattle.ppd_ast.specs.Members.{RisesFrom}
use Rattle.ppd_race.proofs.Listed.{ListedPast}
use Rattle.ppd_race.proofs.by_cell.list_cells.Given as goal

abbrev pub invariant-loop-cell : goal.invariant-loop-cell
invariant-loop-cell g l = record {
  listed : RisesFrom 0 l.cells → ListedPast l.set l.cells l.one l.cell-index l.fn.lists.items l.lists.items;
  least : l.fn.steps + l.cell-index ≤ l.steps;
  spent : l.steps ≤ l.fn.steps + 2 * l.cell-index;
}
