use Rattle.std.proofs.Common.{rules}
use Rattle.ppd_check_stmts.proofs.stores.write_fresh.Goals as goal

pub branch-declare-requires : goal.branch-declare-requires
branch-declare-requires g c = search rules depth 1 fits 30

pub declare-requires : goal.declare-requires
declare-requires g c = search rules depth 1 fits 30

pub from_residual-requires : goal.from_residual-requires
from_residual-requires g c = search rules depth 1 fits 30

pub returns-clause-cost : goal.returns-clause-cost
returns-clause-cost g c = search rules depth 1 fits 30

pub returns-clause-frame : goal.returns-clause-frame
returns-clause-frame g c = search rules depth 1 fits 30

pub returns-in_err-declare : goal.returns-in_err-declare
returns-in_err-declare g c = search rules depth 1 fits 30

pub write_value-requires : goal.write_value-requires
write_value-requires g c = search rules depth 1 fits 30
