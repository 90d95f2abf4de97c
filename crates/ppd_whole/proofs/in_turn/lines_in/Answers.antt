use Rattle.std.proofs.Common.{rules}
use Rattle.ppd_whole.proofs.in_turn.lines_in.Goals as goal

pub loop-p-init : goal.loop-p-init
loop-p-init c = search rules depth 1 fits 30

pub loop-p-smaller : goal.loop-p-smaller
loop-p-smaller c = search rules depth 1 fits 30

pub new-text-requires : goal.new-text-requires
new-text-requires c = search rules depth 1 fits 30

pub put_process-requires : goal.put_process-requires
put_process-requires c = search rules depth 1 fits 30

pub returns-clause-cost : goal.returns-clause-cost
returns-clause-cost c = search rules depth 1 fits 30

pub returns-in_default : goal.returns-in_default
returns-in_default c = search rules depth 1 fits 30

pub try_from-requires : goal.try_from-requires
try_from-requires c = search rules depth 1 fits 30
