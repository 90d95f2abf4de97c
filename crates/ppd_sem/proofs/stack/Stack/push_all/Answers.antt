use Rattle.std.proofs.Common.{rules, arith}
use Rattle.std.proofs.lemmas.Grind.{common_steps}
use Rattle.ppd_sem.proofs.stack.Stack.push_all.Goals as goal

pub append-requires : goal.append-requires
append-requires g c = search rules depth 1 fits 30

pub branch-append-requires : goal.branch-append-requires
branch-append-requires g c = search rules depth 1 fits 30

pub drop-items-requires : goal.drop-items-requires
drop-items-requires g c = search rules depth 1 fits 30

pub drop-items-requires-2 : goal.drop-items-requires-2
drop-items-requires-2 g c = search rules depth 1 fits 30

pub from_residual-requires : goal.from_residual-requires
from_residual-requires g c = search rules depth 1 fits 30

pub returns : goal.returns
returns g c = grind (arith, common_steps) steps 250000

pub returns-in_err-append : goal.returns-in_err-append
returns-in_err-append g c = search rules depth 1 fits 30
