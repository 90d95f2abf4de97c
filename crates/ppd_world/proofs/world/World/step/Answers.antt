use Rattle.ppd_world.proofs.Paid.{paid_by}
use Rattle.ppd_world.proofs.Reached.{comes_by, kept_by}
use Rattle.ppd_world.proofs.world.World.step.Goals as goal

pub returns-clause-comes : goal.returns-clause-comes
returns-clause-comes c = comes_by c.take.result c.args.self.now c.take.new.self c.args.p c.requires.enabled c.take.ensures.ok

pub returns-clause-kept : goal.returns-clause-kept
returns-clause-kept c = kept_by c.take.result c.args.self.now c.take.new.self c.args.p c.requires.enabled c.take.ensures.ok c.take.ensures.err c.requires.reached

pub returns-clause-cost : goal.returns-clause-cost
returns-clause-cost c = paid_by c.take.result c.args.self.now c.take.new.self c.args.p c.requires.enabled c.take.ensures.ok c.requires.reached
