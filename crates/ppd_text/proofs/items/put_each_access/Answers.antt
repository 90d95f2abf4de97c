use Rattle.std.proofs.Common.{rules, arith}
use Rattle.std.proofs.lemmas.Grind.{common_steps}
use Rattle.ppd_text.proofs.items.put_each_access.Goals as goal

pub branch-put_access-requires : goal.branch-put_access-requires
branch-put_access-requires c = search rules depth 1 fits 30

pub from_residual-requires : goal.from_residual-requires
from_residual-requires c = search rules depth 1 fits 30

pub loop-access-init : goal.loop-access-init
loop-access-init c = search rules depth 1 fits 30

pub loop-access-smaller : goal.loop-access-smaller
loop-access-smaller c = search rules depth 1 fits 30

pub put_access-requires : goal.put_access-requires
put_access-requires c = search rules depth 1 fits 30

pub returns : goal.returns
returns c = grind (arith, common_steps) steps 250000

pub returns-in_err-put_access : goal.returns-in_err-put_access
returns-in_err-put_access c = grind (arith, common_steps) steps 250000
