use Rattle.std.proofs.Common.{rules, arith}
use Rattle.std.proofs.lemmas.Grind.{common_steps}
use Rattle.ppd_whole.proofs.processes.events_in_turn.Goals as goal

pub branch-own-requires : goal.branch-own-requires
branch-own-requires c = search rules depth 1 fits 30

pub branch-push-requires : goal.branch-push-requires
branch-push-requires c = search rules depth 1 fits 30

pub deref-requires : goal.deref-requires
deref-requires c = search rules depth 1 fits 30

pub drop-own-requires-2 : goal.drop-own-requires-2
drop-own-requires-2 c = search rules depth 1 fits 30

pub events_at-requires : goal.events_at-requires
events_at-requires c = search rules depth 1 fits 30

pub from_residual-requires : goal.from_residual-requires
from_residual-requires c = search rules depth 1 fits 30

pub len-p-end-requires : goal.len-p-end-requires
len-p-end-requires c = search rules depth 1 fits 30

pub loop-p-init : goal.loop-p-init
loop-p-init c = search rules depth 1 fits 30

pub loop-p-smaller : goal.loop-p-smaller
loop-p-smaller c = search rules depth 1 fits 30

pub new-all-requires : goal.new-all-requires
new-all-requires c = search rules depth 1 fits 30

pub returns-in_err-own : goal.returns-in_err-own
returns-in_err-own c = search rules depth 1 fits 30

pub returns-in_err-push : goal.returns-in_err-push
returns-in_err-push c = grind (arith, common_steps) steps 250000

pub rows_by_process-requires-clause-past : goal.rows_by_process-requires-clause-past
rows_by_process-requires-clause-past c = search rules depth 1 fits 30

pub rows_by_process-requires-clause-rows : goal.rows_by_process-requires-clause-rows
rows_by_process-requires-clause-rows c = search rules depth 1 fits 30
