use Rattle.std.proofs.Common.{rules}
use Rattle.ppd_whole.proofs.lines.put_stmt_if.Goals as goal

pub as_slice-stmts-requires : goal.as_slice-stmts-requires
as_slice-stmts-requires c = search rules depth 1 fits 30

pub get-requires : goal.get-requires
get-requires c = search rules depth 1 fits 30

pub put_stmt-requires : goal.put_stmt-requires
put_stmt-requires c = search rules depth 1 fits 30

pub returns-in-None-clause-cost : goal.returns-in-None-clause-cost
returns-in-None-clause-cost c = search rules depth 1 fits 30

pub returns-in-Some-clause-cost : goal.returns-in-Some-clause-cost
returns-in-Some-clause-cost c = search rules depth 1 fits 30
