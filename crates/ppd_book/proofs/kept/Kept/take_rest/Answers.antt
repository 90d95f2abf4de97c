use Rattle.std.proofs.Common.{arith}
use Rattle.ppd_world.proofs.Reached.{fewer_left}
use Rattle.ppd_book.proofs.Turns.{one_taken}
use Rattle.ppd_book.proofs.kept.Kept.take_rest.Goals as goal

pub loop-p-smaller : goal.loop-p-smaller
loop-p-smaller g c = omega (arith, fewer_left c.loop-p.self.world c.take.new.self.world c.in-Some.p c.lowest.ensures.held.reached c.in-Some.ensures.some.can c.in_ok-take.ensures.world)

pub loop-p-preserved : goal.loop-p-preserved
loop-p-preserved g c = one_taken c.args.self.now.world c.loop-p.self.world c.take.new.self.world c.args.self.now.schedule c.loop-p.self.schedule c.take.new.self.schedule c.in-Some.p
    c.loop-p.invariant c.in-Some.ensures.some c.in_ok-take.ensures.world c.in_ok-take.ensures.schedule
