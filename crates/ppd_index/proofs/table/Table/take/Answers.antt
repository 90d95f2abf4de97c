use Rattle.std.proofs.Common.{rules, arith}
use Rattle.std.proofs.lemmas.Grind.{common_steps, elements}
use Rattle.ppd_index.proofs.table.Table.take.Goals as goal

pub add_mark-requires : goal.add_mark-requires
add_mark-requires c = search rules depth 1 fits 30

pub end-requires : goal.end-requires
end-requires c = search rules depth 1 fits 30

pub enter-requires : goal.enter-requires
enter-requires c = grind (arith, common_steps) steps 250000

pub leave-requires : goal.leave-requires
leave-requires c = search rules depth 1 fits 30

pub returns-in-End : goal.returns-in-End
returns-in-End c = search rules depth 1 fits 30

pub returns-in-Postlog : goal.returns-in-Postlog
returns-in-Postlog c = search rules depth 1 fits 30

pub returns-in-Prelog : goal.returns-in-Prelog
returns-in-Prelog c = grind (arith, common_steps) steps 250000

pub returns-in-Unit : goal.returns-in-Unit
returns-in-Unit c = grind (arith, elements) steps 250000
