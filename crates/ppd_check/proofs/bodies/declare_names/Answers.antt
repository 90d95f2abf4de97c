use Rattle.std.proofs.Common.{arith}
use Rattle.ppd_check_names.specs.Nodes.{phrases_below}
use Rattle.ppd_check.proofs.Filling.{parametered_more, parametered_whole}
use Rattle.ppd_check_names.proofs.Declared.Parameters.{below_count}
use Rattle.ppd_check.proofs.bodies.declare_names.Goals as goal

pub loop-k-preserved : goal.loop-k-preserved
loop-k-preserved g c = record {
  declares =
      parametered_more (phrases_below c.args.source.nodes.now c.args.id) c.loop-k.k c.args.frame.now c.loop-k.frame c.declare_name.new.frame c.args.found.now c.loop-k.found c.declare_name.new.found
      (below_count c.args.source.nodes.now c.args.id c.loop-k.k c.children_of-k-end.result.now c.children_of-k-end.ensures.children (omega (arith, c.loop-k-test.true)))
      c.loop-k.invariant.declares c.in_ok-declare_name.ensures.declares;
  cost = omega (arith, c.loop-k.invariant.cost, c.tick.ensures, c.in_ok-declare_name.ensures.cost);
}

pub returns-clause-declares : goal.returns-clause-declares
returns-clause-declares g c =
    parametered_whole c.args.source.nodes.now c.args.id c.loop-k.k c.children_of-k-end.result.now c.args.frame.now c.loop-k.frame c.args.found.now c.loop-k.found c.children_of-k-end.ensures.children
    (omega (arith, c.loop-k-test.false, c.loop-k.auto.k-end)) c.loop-k.invariant.declares
