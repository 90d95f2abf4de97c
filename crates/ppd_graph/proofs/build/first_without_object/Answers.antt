use Rattle.std.proofs.Common.{arith}
use Rattle.ppd_graph.proofs.Kept.{objects_all, objects_here, objects_more}
use Rattle.ppd_graph.proofs.build.first_without_object.Goals as goal

pub loop-one-preserved : goal.loop-one-preserved
loop-one-preserved g c = record {
  holds = objects_more c.args.program.now c.loop-one.one-index c.args.placed.now _ c.has_object.result _ c.loop-one-test.true c.has_object.ensures c.if-not-has_object.false c.loop-one.invariant.holds;
  spent = omega (arith, c.tick.ensures, c.loop-one.invariant.spent);
}

pub returns-then-not-has_object-clause-value : goal.returns-then-not-has_object-clause-value
returns-then-not-has_object-clause-value g c = objects_here c.args.program.now c.loop-one.one-index c.args.placed.now _ c.has_object.result _ c.loop-one-test.true c.has_object.ensures c.if-not-has_object.true c.loop-one.invariant.holds

pub returns-clause-value : goal.returns-clause-value
returns-clause-value g c = objects_all c.args.program.now c.loop-one.one-index c.args.placed.now _ c.loop-one-test.false c.loop-one.invariant.holds
