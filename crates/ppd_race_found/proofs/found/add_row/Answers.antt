use Rattle.std.proofs.Common.{refl, ◌∙◌, ap, sym, subst, arith}
use Rattle.std.specs.List.{sum_by}
use Rattle.std.proofs.lemmas.List.{take_all}
use Rattle.std.proofs.lemmas.List.Sums.{sum_by-take-le, sum_by_more}
use Rattle.ppd_ast.specs.Members.{AreBelow}
use Rattle.ppd_ast.specs.declared.limits.TheConstants.{MOST_SHARED_CELLS}
use Rattle.ppd_race_found.specs.declared.busy.Busy.{Busy}
use Rattle.ppd_race_found.specs.Lists.{GrowsBy}
use Rattle.ppd_race_found.specs.Search.{IsElsewhere, edge_cost, edge_least, found_with}
use Rattle.ppd_race_found.proofs.Grown.{past_all, past_more, past_none}
use Rattle.ppd_race_found.proofs.found.add_row.Goals as goal

pub add_edge-requires-clause-below : goal.add_edge-requires-clause-below
add_edge-requires-clause-below g c = subst (λ (b : Busy). AreBelow MOST_SHARED_CELLS b.cells) (sym c.b-item.is) (c.requires.cells c.loop-b.b-index c.b-item.result c.loop-b-test.true).below

pub loop-b-init : goal.loop-b-init
loop-b-init g c = record { long = refl; grown = λ p can elsewhere. past_none (λ m b. found_with c.args.graph.now c.args.lists.now b m) c.args.row.now c.args.found.now.items; least = omega arith; spent = omega arith }

pub loop-b-preserved : goal.loop-b-preserved
loop-b-preserved g c =
    let more = sum_by_more edge_cost c.args.row.now c.loop-b.b-index c.b-item.result c.loop-b-test.true in
    let same = ap edge_cost c.b-item.is in
    let more_least = sum_by_more edge_least c.args.row.now c.loop-b.b-index c.b-item.result c.loop-b-test.true in
    let same_least = ap edge_least c.b-item.is in
    record {
      long = c.in_ok-add_edge.ensures.long ∙ c.loop-b.invariant.long;
      grown = λ p can elsewhere.
          past_more (λ m b. found_with c.args.graph.now c.args.lists.now b m) c.loop-b.b-index c.args.row.now c.b-item.result c.args.found.now.items c.loop-b.found.items c.add_edge.new.found.items c.loop-b-test.true
          (c.loop-b.invariant.grown p can elsewhere)
          (subst (λ (b : Busy). GrowsBy (found_with c.args.graph.now c.args.lists.now b) c.loop-b.found.items c.add_edge.new.found.items) c.b-item.is
          (c.in_ok-add_edge.ensures.grows p can (subst (λ (b : Busy). IsElsewhere c.args.graph.now p b.edge) (sym c.b-item.is) (elsewhere c.loop-b.b-index c.b-item.result c.loop-b-test.true))));
      least = omega (arith, c.tick.ensures, c.in_ok-add_edge.ensures.least, c.loop-b.invariant.least, more_least, same_least);
      spent = omega (arith, c.tick.ensures, c.in_ok-add_edge.ensures.cost, c.loop-b.invariant.spent, more, same);
    }

pub returns-clause-grows : goal.returns-clause-grows
returns-clause-grows g c = λ p can elsewhere.
    past_all (λ m b. found_with c.args.graph.now c.args.lists.now b m) c.loop-b.b-index c.args.row.now c.args.found.now.items c.loop-b.found.items c.loop-b-test.false (c.loop-b.invariant.grown p can elsewhere)

pub returns-clause-cost : goal.returns-clause-cost
returns-clause-cost g c = let less = sum_by-take-le edge_cost c.args.row.now c.loop-b.b-index in omega (arith, less, c.loop-b.invariant.spent)

pub returns-clause-least : goal.returns-clause-least
returns-clause-least g c =
    let all = ap (sum_by edge_least) (take_all c.loop-b.b-index c.args.row.now c.loop-b-test.false) in
    omega (arith, all, c.loop-b.invariant.least)
