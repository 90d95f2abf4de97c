use Rattle.std.proofs.Common.{rules, arith}
use Rattle.std.proofs.lemmas.Grind.{common_steps}
use Rattle.ppd_world.proofs.starting.start_log.Goals as goal

pub branch-entries-requires : goal.branch-entries-requires
branch-entries-requires c = search rules depth 1 fits 30

pub branch-proc-requires : goal.branch-proc-requires
branch-proc-requires c = search rules depth 1 fits 30

pub drop-proc-requires : goal.drop-proc-requires
drop-proc-requires c = search rules depth 1 fits 30

pub drop-proc-requires-in_err-entries : goal.drop-proc-requires-in_err-entries
drop-proc-requires-in_err-entries c = search rules depth 1 fits 30

pub from_residual-requires : goal.from_residual-requires
from_residual-requires c = search rules depth 1 fits 30

pub from_residual-requires-in_err-entries : goal.from_residual-requires-in_err-entries
from_residual-requires-in_err-entries c = search rules depth 1 fits 30

pub new-requires : goal.new-requires
new-requires c = search rules depth 1 fits 30

pub new-requires-2 : goal.new-requires-2
new-requires-2 c = search rules depth 1 fits 30

pub returns : goal.returns
returns c = grind (arith, common_steps) steps 250000

pub returns-in_err-entries : goal.returns-in_err-entries
returns-in_err-entries c = search rules depth 1 fits 30

pub returns-in_err-proc : goal.returns-in_err-proc
returns-in_err-proc c = search rules depth 1 fits 30

pub start-requires : goal.start-requires
start-requires c = search rules depth 1 fits 30
