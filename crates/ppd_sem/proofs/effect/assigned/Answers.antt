use Rattle.std.proofs.Common.{rules, arith}
use Rattle.std.proofs.lemmas.Grind.{common_steps, elements}
use Rattle.ppd_sem.proofs.effect.assigned.Goals as goal

pub ask-requires : goal.ask-requires
ask-requires c = search rules depth 1 fits 30

pub branch-cell-requires : goal.branch-cell-requires
branch-cell-requires c = search rules depth 1 fits 30

pub branch-value-requires : goal.branch-value-requires
branch-value-requires c = search rules depth 1 fits 30

pub from_residual-requires : goal.from_residual-requires
from_residual-requires c = search rules depth 1 fits 30

pub from_residual-requires-in_err-value : goal.from_residual-requires-in_err-value
from_residual-requires-in_err-value c = search rules depth 1 fits 30

pub returns-clause-range : goal.returns-clause-range
returns-clause-range c = grind (arith, common_steps) steps 250000

pub returns-in_err-cell : goal.returns-in_err-cell
returns-in_err-cell c = search rules depth 1 fits 30

pub returns-in_err-value : goal.returns-in_err-value
returns-in_err-value c = grind (arith, elements) steps 250000

pub stored-requires : goal.stored-requires
stored-requires c = search rules depth 1 fits 30

pub target_cell-requires : goal.target_cell-requires
target_cell-requires c = search rules depth 1 fits 30
