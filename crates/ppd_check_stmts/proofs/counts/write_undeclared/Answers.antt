use Rattle.std.proofs.Common.{rules}
use Rattle.ppd_check_stmts.proofs.counts.write_undeclared.Goals as goal

pub branch-write_changing-requires : goal.branch-write_changing-requires
branch-write_changing-requires g c = search rules depth 1 fits 30

pub from_residual-requires : goal.from_residual-requires
from_residual-requires g c = search rules depth 1 fits 30

pub len-before-requires : goal.len-before-requires
len-before-requires g c = search rules depth 1 fits 30

pub returns-clause-cost : goal.returns-clause-cost
returns-clause-cost g c = search rules depth 1 fits 30

pub returns-in_err-write_changing : goal.returns-in_err-write_changing
returns-in_err-write_changing g c = search rules depth 1 fits 30

pub truncate-requires : goal.truncate-requires
truncate-requires g c = search rules depth 1 fits 30

pub write_changing-requires : goal.write_changing-requires
write_changing-requires g c = search rules depth 1 fits 30
