use Rattle.ppd_graph.proofs.RoundsWalked.{through_all, through_here, through_on}
use Rattle.ppd_graph.proofs.rounds.front_through.Goals as goal

pub returns-then-x-q : goal.returns-then-x-q
returns-then-x-q c = through_here c.args.q c.loop-x.x-index c.loop-x.front.items c.push_last.new.path.items c.args.path.now c.loop-x-test.true c.in_ok-push_last.ensures c.if-x-q.true c.loop-x.invariant

pub loop-x-preserved : goal.loop-x-preserved
loop-x-preserved c = through_on c.args.q c.loop-x.x-index c.loop-x.front.items c.push_last.new.path.items c.args.path.now c.loop-x-test.true c.in_ok-push_last.ensures c.if-x-q.false c.loop-x.invariant

pub returns : goal.returns
returns c = through_all c.args.q c.loop-x.x-index c.loop-x.front.items c.args.path.now c.loop-x-test.false c.loop-x.invariant
