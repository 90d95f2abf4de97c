use Rattle.std.proofs.Common.{rules}
use Rattle.ppd_sem.proofs.asking.by_both.Goals as goal

pub branch-calc-requires : goal.branch-calc-requires
branch-calc-requires c = search rules depth 1 fits 30

pub calc-requires : goal.calc-requires
calc-requires c = search rules depth 1 fits 30

pub from_residual-requires : goal.from_residual-requires
from_residual-requires c = search rules depth 1 fits 30

pub is_zero-requires : goal.is_zero-requires
is_zero-requires c = search rules depth 1 fits 30

pub returns-in_default : goal.returns-in_default
returns-in_default c = search rules depth 1 fits 30

pub returns-in_err-calc-in-Two : goal.returns-in_err-calc-in-Two
returns-in_err-calc-in-Two c = search rules depth 1 fits 30

pub returns-in_ok-calc-in-Two : goal.returns-in_ok-calc-in-Two
returns-in_ok-calc-in-Two c = search rules depth 1 fits 30

pub truth-requires : goal.truth-requires
truth-requires c = search rules depth 1 fits 30
