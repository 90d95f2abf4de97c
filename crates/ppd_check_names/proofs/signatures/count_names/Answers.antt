use Rattle.std.proofs.Common.{arith}
use Rattle.ppd_check_names.specs.Nodes.{phrases_below}
use Rattle.ppd_check_names.proofs.Declared.Parameters.{names_more, names_all, below_count}
use Rattle.ppd_check_names.proofs.signatures.count_names.Goals as goal

pub loop-k-preserved : goal.loop-k-preserved
loop-k-preserved g c = record {
  count =
      names_more (phrases_below c.args.source.nodes.now c.args.id) c.loop-k.k c.loop-k.count c.names_at.result c.in_ok-count.count
      (below_count c.args.source.nodes.now c.args.id c.loop-k.k c.children_of-k-end.result.now c.children_of-k-end.ensures.children (omega (arith, c.loop-k-test.true)))
      c.loop-k.invariant.count c.names_at.ensures c.in_ok-count.ensures;
  cost = omega (arith, c.loop-k.invariant.cost, c.tick.ensures);
}

pub returns-clause-value : goal.returns-clause-value
returns-clause-value g c =
    names_all c.args.source.nodes.now c.args.id c.loop-k.k c.loop-k.count c.children_of-k-end.result.now c.children_of-k-end.ensures.children
    (omega (arith, c.loop-k-test.false, c.loop-k.auto.k-end)) c.loop-k.invariant.count
