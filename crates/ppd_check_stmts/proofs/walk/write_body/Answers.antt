use Rattle.std.proofs.Common.{rules}
use Rattle.ppd_check_stmts.proofs.walk.write_body.Goals as goal

pub returns-in-Block : goal.returns-in-Block
returns-in-Block g c = search rules depth 1 fits 30

pub rule_of-requires : goal.rule_of-requires
rule_of-requires g c = search rules depth 1 fits 30

pub write_rows-requires : goal.write_rows-requires
write_rows-requires g c = search rules depth 1 fits 30
