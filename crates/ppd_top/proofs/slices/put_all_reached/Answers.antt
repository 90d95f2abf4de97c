use Rattle.std.proofs.Common.{rules, arith}
use Rattle.std.proofs.lemmas.Grind.{common_steps}
use Rattle.ppd_top.proofs.slices.put_all_reached.Goals as goal

pub branch-put_reached-requires : goal.branch-put_reached-requires
branch-put_reached-requires c = search rules depth 1 fits 30

pub from_residual-requires : goal.from_residual-requires
from_residual-requires c = search rules depth 1 fits 30

pub loop-reached-init : goal.loop-reached-init
loop-reached-init c = search rules depth 1 fits 30

pub loop-reached-smaller : goal.loop-reached-smaller
loop-reached-smaller c = search rules depth 1 fits 30

pub put_reached-requires : goal.put_reached-requires
put_reached-requires c = search rules depth 1 fits 30

pub returns : goal.returns
returns c = grind (arith, common_steps) steps 250000

pub returns-in_err-put_reached : goal.returns-in_err-put_reached
returns-in_err-put_reached c = grind (arith, common_steps) steps 250000
