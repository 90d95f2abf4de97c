use Rattle.std.proofs.Common.{arith, rules}
use Rattle.ppd_world.proofs.Processes.{none_of_all}
use Rattle.ppd_world.proofs.world.World.lowest.Goals as goal

pub returns-clause-none : goal.returns-clause-none
returns-clause-none c = none_of_all c.args.self.now (λ q lt. c.loop-p.invariant q (omega arith))

pub enabled-requires : goal.enabled-requires
enabled-requires c = search rules depth 1 fits 30

pub loop-p-init : goal.loop-p-init
loop-p-init c = search rules depth 1 fits 30

pub loop-p-smaller : goal.loop-p-smaller
loop-p-smaller c = search rules depth 1 fits 30

pub process_count-p-end-requires : goal.process_count-p-end-requires
process_count-p-end-requires c = search rules depth 1 fits 30

pub returns-clause-some : goal.returns-clause-some
returns-clause-some c = search rules depth 1 fits 30

pub returns-then-enabled : goal.returns-then-enabled
returns-then-enabled c = search rules depth 1 fits 30
