use Rattle.std.proofs.Common.{arith}
use Rattle.ppd_graph.proofs.Searched.{greatest_more}
use Rattle.ppd_graph.proofs.greatest.greatest_of.Goals as goal

pub loop-one-preserved : goal.loop-one-preserved
loop-one-preserved g c = record {
  long = c.raise.ensures.long;
  greatest = λ o. greatest_more c.args.kind c.loop-one.numbers c.raise.new.numbers c.loop-one.one-index c.args.placed.now _ c.loop-one-test.true c.raise.ensures.raised o _ (c.loop-one.invariant.greatest o);
  spent = omega (arith, c.tick.ensures, c.loop-one.invariant.spent);
}
