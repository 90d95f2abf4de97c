use Rattle.std.proofs.Common.{rules}
use Rattle.ppd_check_stmts.proofs.held.hold.Goals as goal

pub branch-put_stmt-requires : goal.branch-put_stmt-requires
branch-put_stmt-requires g c = search rules depth 1 fits 30

pub from_residual-requires : goal.from_residual-requires
from_residual-requires g c = search rules depth 1 fits 30

pub len-requires : goal.len-requires
len-requires g c = search rules depth 1 fits 30

pub put_stmt-requires : goal.put_stmt-requires
put_stmt-requires g c = search rules depth 1 fits 30

pub returns : goal.returns
returns g c = search rules depth 1 fits 30

pub returns-in_default : goal.returns-in_default
returns-in_default g c = search rules depth 1 fits 30

pub returns-in_err-put_stmt : goal.returns-in_err-put_stmt
returns-in_err-put_stmt g c = search rules depth 1 fits 30

pub try_from-requires : goal.try_from-requires
try_from-requires g c = search rules depth 1 fits 30
