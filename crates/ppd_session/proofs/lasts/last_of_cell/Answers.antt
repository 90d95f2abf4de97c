use Rattle.std.proofs.Common.{rules, arith}
use Rattle.std.proofs.lemmas.Grind.{common_steps}
use Rattle.ppd_session.proofs.lasts.last_of_cell.Goals as goal

pub branch-last-requires : goal.branch-last-requires
branch-last-requires c = search rules depth 1 fits 30

pub count-requires : goal.count-requires
count-requires c = search rules depth 1 fits 30

pub last_edge-requires : goal.last_edge-requires
last_edge-requires c = search rules depth 1 fits 30

pub last_kept-requires : goal.last_kept-requires
last_kept-requires c = grind (arith, common_steps) steps 250000

pub last_of-requires : goal.last_of-requires
last_of-requires c = search rules depth 1 fits 30

pub last_of-requires-2 : goal.last_of-requires-2
last_of-requires-2 c = search rules depth 1 fits 30

pub returns-in_default : goal.returns-in_default
returns-in_default c = search rules depth 1 fits 30

pub returns-in_err-last : goal.returns-in_err-last
returns-in_err-last c = search rules depth 1 fits 30

pub returns-then-last-count-clause-error : goal.returns-then-last-count-clause-error
returns-then-last-count-clause-error c = search rules depth 1 fits 30

pub returns-then-last-count-clause-kept : goal.returns-then-last-count-clause-kept
returns-then-last-count-clause-kept c = grind (arith, common_steps) steps 250000

pub returns-then-last-count-clause-part : goal.returns-then-last-count-clause-part
returns-then-last-count-clause-part c = grind (arith, common_steps) steps 250000

pub returns-then-last-count-clause-tables : goal.returns-then-last-count-clause-tables
returns-then-last-count-clause-tables c = search rules depth 1 fits 30

pub returns-then-last-count-clause-value : goal.returns-then-last-count-clause-value
returns-then-last-count-clause-value c = search rules depth 1 fits 30

pub returns-clause-error : goal.returns-clause-error
returns-clause-error c = search rules depth 1 fits 30

pub returns-clause-kept : goal.returns-clause-kept
returns-clause-kept c = search rules depth 1 fits 30

pub returns-clause-part : goal.returns-clause-part
returns-clause-part c = search rules depth 1 fits 30

pub returns-clause-tables : goal.returns-clause-tables
returns-clause-tables c = search rules depth 1 fits 30

pub returns-clause-value : goal.returns-clause-value
returns-clause-value c = search rules depth 1 fits 30
