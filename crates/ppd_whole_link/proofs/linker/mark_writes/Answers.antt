use Rattle.std.proofs.Common.{rules, arith}
use Rattle.std.proofs.lemmas.Grind.{common_steps}
use Rattle.ppd_whole_link.proofs.linker.mark_writes.Goals as goal

pub branch-mark_spot-requires : goal.branch-mark_spot-requires
branch-mark_spot-requires c = search rules depth 1 fits 30

pub from_residual-requires : goal.from_residual-requires
from_residual-requires c = search rules depth 1 fits 30

pub loop-access-init : goal.loop-access-init
loop-access-init c = search rules depth 1 fits 30

pub loop-access-preserved : goal.loop-access-preserved
loop-access-preserved c = grind (arith, common_steps) steps 250000

pub loop-access-smaller : goal.loop-access-smaller
loop-access-smaller c = search rules depth 1 fits 30

pub mark_spot-requires : goal.mark_spot-requires
mark_spot-requires c = search rules depth 1 fits 30

pub returns : goal.returns
returns c = grind (arith, common_steps) steps 250000

pub returns-in_err-mark_spot : goal.returns-in_err-mark_spot
returns-in_err-mark_spot c = search rules depth 1 fits 30
