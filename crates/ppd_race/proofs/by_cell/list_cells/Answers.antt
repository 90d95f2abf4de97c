use Rattle.std.proofs.Common.{refl, arith}
use Rattle.ppd_ast.specs.declared.limits.TheConstants.{MOST_SHARED_CELLS}
use Rattle.ppd_race_found.proofs.OverCell.{below_at}
use Rattle.ppd_race.proofs.Listed.{listed_all, listed_more, listed_none}
use Rattle.ppd_race.proofs.by_cell.list_cells.Goals as goal

pub contains-requires : goal.contains-requires
contains-requires g c = below_at MOST_SHARED_CELLS c.args.cells.now c.args.cells.now c.loop-cell.cell-index _ refl c.requires.below c.loop-cell-test.true

pub loop-cell-init : goal.loop-cell-init
loop-cell-init g c = record { listed = λ rises. listed_none c.args.set.now c.args.cells.now c.args.one c.args.lists.now.items; least = omega arith; spent = omega arith }

pub loop-cell-preserved : goal.loop-cell-preserved
loop-cell-preserved g c = record {
  listed = λ rises.
      listed_more c.args.set.now c.args.cells.now c.args.one c.loop-cell.cell-index _ c.contains.result c.args.lists.now.items c.loop-cell.lists.items c.push_if.new.lists.items c.loop-cell-test.true rises c.contains.ensures
      (c.loop-cell.invariant.listed rises) c.in_ok-push_if.ensures.listed;
  least = omega (arith, c.tick.ensures, c.in_ok-push_if.ensures.on, c.loop-cell.invariant.least);
  spent = omega (arith, c.tick.ensures, c.in_ok-push_if.ensures.cost, c.loop-cell.invariant.spent);
}

pub returns-clause-listed : goal.returns-clause-listed
returns-clause-listed g c = λ rises. listed_all c.args.set.now c.args.cells.now c.args.one c.loop-cell.cell-index c.args.lists.now.items c.loop-cell.lists.items c.loop-cell-test.false (c.loop-cell.invariant.listed rises)
