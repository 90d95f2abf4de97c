use Rattle.std.proofs.Common.{rules, arith}
use Rattle.std.proofs.lemmas.Grind.{common_steps}
use Rattle.ppd_whole.proofs.lines.put_line.Goals as goal

pub parent-requires : goal.parent-requires
parent-requires c = search rules depth 1 fits 30

pub put-requires : goal.put-requires
put-requires c = search rules depth 1 fits 30

pub put-requires-2 : goal.put-requires-2
put-requires-2 c = search rules depth 1 fits 30

pub put_event_or-requires : goal.put_event_or-requires
put_event_or-requires c = search rules depth 1 fits 30

pub put_head-requires : goal.put_head-requires
put_head-requires c = search rules depth 1 fits 30

pub put_stmt_if-requires : goal.put_stmt_if-requires
put_stmt_if-requires c = search rules depth 1 fits 30

pub returns-in_err-put : goal.returns-in_err-put
returns-in_err-put c = grind (arith, common_steps) steps 250000

pub returns-in_err-put_event_or : goal.returns-in_err-put_event_or
returns-in_err-put_event_or c = grind (arith, common_steps) steps 250000

pub returns-in_err-put_head : goal.returns-in_err-put_head
returns-in_err-put_head c = grind (arith, common_steps) steps 250000

pub returns-in_err-put_stmt_if : goal.returns-in_err-put_stmt_if
returns-in_err-put_stmt_if c = grind (arith, common_steps) steps 250000

pub tick-requires : goal.tick-requires
tick-requires c = search rules depth 1 fits 30
