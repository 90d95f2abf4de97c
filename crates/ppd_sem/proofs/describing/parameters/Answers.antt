use Rattle.std.proofs.Common.{rules, arith}
use Rattle.std.proofs.lemmas.Grind.{common_steps}
use Rattle.ppd_sem.proofs.describing.parameters.Goals as goal

pub branch-push-requires : goal.branch-push-requires
branch-push-requires c = search rules depth 1 fits 30

pub drop-writes-inside-requires : goal.drop-writes-inside-requires
drop-writes-inside-requires c = search rules depth 1 fits 30

pub from_residual-requires : goal.from_residual-requires
from_residual-requires c = search rules depth 1 fits 30

pub local_write-requires : goal.local_write-requires
local_write-requires c = search rules depth 1 fits 30

pub loop-index-init : goal.loop-index-init
loop-index-init c = search rules depth 1 fits 30

pub loop-index-preserved : goal.loop-index-preserved
loop-index-preserved c = grind (arith, common_steps) steps 250000

pub loop-index-smaller : goal.loop-index-smaller
loop-index-smaller c = search rules depth 1 fits 30

pub new-writes-requires : goal.new-writes-requires
new-writes-requires c = search rules depth 1 fits 30

pub push-requires : goal.push-requires
push-requires c = search rules depth 1 fits 30

pub returns : goal.returns
returns c = grind (arith, common_steps) steps 250000

pub returns-in_err-push : goal.returns-in_err-push
returns-in_err-push c = search rules depth 1 fits 30
