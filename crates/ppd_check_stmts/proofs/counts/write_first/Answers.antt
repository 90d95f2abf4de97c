use Rattle.std.proofs.Common.{rules}
use Rattle.ppd_check_stmts.proofs.counts.write_first.Goals as goal

pub kind_at-requires : goal.kind_at-requires
kind_at-requires g c = search rules depth 1 fits 30

pub label_at-name-requires : goal.label_at-name-requires
label_at-name-requires g c = search rules depth 1 fits 30

pub operand_at-requires : goal.operand_at-requires
operand_at-requires g c = search rules depth 1 fits 30

pub part_of-first-requires : goal.part_of-first-requires
part_of-first-requires g c = search rules depth 1 fits 30

pub part_of-requires : goal.part_of-requires
part_of-requires g c = search rules depth 1 fits 30

pub part_of-requires-in-IntWord : goal.part_of-requires-in-IntWord
part_of-requires-in-IntWord g c = search rules depth 1 fits 30

pub returns-in-IntWord-clause-cost : goal.returns-in-IntWord-clause-cost
returns-in-IntWord-clause-cost g c = search rules depth 1 fits 30

pub write_changing-requires : goal.write_changing-requires
write_changing-requires g c = search rules depth 1 fits 30

pub write_fresh-requires : goal.write_fresh-requires
write_fresh-requires g c = search rules depth 1 fits 30
