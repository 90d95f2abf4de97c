use Rattle.std.proofs.Common.{refl, ◌∙◌, ap, arith, length}
use Rattle.std.specs.List.{flat_map}
use Rattle.ppd_ast.specs.declared.limits.TheConstants.{MOST_SHARED_CELLS}
use Rattle.ppd_race_found.specs.Search.{found_over, found_with}
use Rattle.ppd_race_found.proofs.OverCell.{below_at}
use Rattle.ppd_race_found.proofs.Grown.{grown_as, past_all, past_more, past_none}
use Rattle.ppd_race_found.proofs.found.add_edge.Goals as goal

pub add_cell-requires-clause-cell : goal.add_cell-requires-clause-cell
add_cell-requires-clause-cell g c = below_at MOST_SHARED_CELLS c.args.b.now.cells c.as_slice-cells.result.now c.loop-cell.cell-index _ c.as_slice-cells.ensures c.requires.below c.loop-cell-test.true

pub loop-cell-init : goal.loop-cell-init
loop-cell-init g c = record {
  long = refl;
  grown = λ p can elsewhere. past_none (λ m k. found_over c.args.graph.now c.args.lists.now c.args.b.now k m) c.as_slice-cells.result.now c.args.found.now.items;
  least = omega arith;
  spent = omega arith;
}

pub loop-cell-preserved : goal.loop-cell-preserved
loop-cell-preserved g c = record {
  long = c.in_ok-add_cell.ensures.long ∙ c.loop-cell.invariant.long;
  grown = λ p can elsewhere.
      past_more (λ m k. found_over c.args.graph.now c.args.lists.now c.args.b.now k m) c.loop-cell.cell-index c.as_slice-cells.result.now _ c.args.found.now.items c.loop-cell.found.items c.add_cell.new.found.items c.loop-cell-test.true
      (c.loop-cell.invariant.grown p can elsewhere) (c.in_ok-add_cell.ensures.grows p can elsewhere);
  least = omega (arith, c.tick.ensures, c.in_ok-add_cell.ensures.least, c.loop-cell.invariant.least);
  spent = omega (arith, c.tick.ensures, c.in_ok-add_cell.ensures.cost, c.loop-cell.invariant.spent);
}

pub returns-clause-grows : goal.returns-clause-grows
returns-clause-grows g c = λ p can elsewhere.
    grown_as (λ m. flat_map (λ k. found_over c.args.graph.now c.args.lists.now c.args.b.now k m) c.as_slice-cells.result.now) (found_with c.args.graph.now c.args.lists.now c.args.b.now) c.args.found.now.items c.loop-cell.found.items (λ m. ap (flat_map (λ k. found_over c.args.graph.now c.args.lists.now c.args.b.now k m)) c.as_slice-cells.ensures)
    (past_all (λ m k. found_over c.args.graph.now c.args.lists.now c.args.b.now k m) c.loop-cell.cell-index c.as_slice-cells.result.now c.args.found.now.items c.loop-cell.found.items c.loop-cell-test.false (c.loop-cell.invariant.grown p can elsewhere))

pub returns-clause-cost : goal.returns-clause-cost
returns-clause-cost g c = let same = ap length c.as_slice-cells.ensures in omega (arith, same, c.loop-cell.invariant.spent)

pub returns-clause-least : goal.returns-clause-least
returns-clause-least g c = let same = ap length c.as_slice-cells.ensures in omega (arith, same, c.loop-cell-test.false, c.loop-cell.invariant.least)
