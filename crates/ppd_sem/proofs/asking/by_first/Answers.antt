use Rattle.std.proofs.Common.{rules}
use Rattle.ppd_sem.proofs.asking.by_first.Goals as goal

pub branch-cell-requires : goal.branch-cell-requires
branch-cell-requires c = search rules depth 1 fits 30

pub branch-element-requires : goal.branch-element-requires
branch-element-requires c = search rules depth 1 fits 30

pub branch-negated-requires : goal.branch-negated-requires
branch-negated-requires c = search rules depth 1 fits 30

pub element-requires : goal.element-requires
element-requires c = search rules depth 1 fits 30

pub element-requires-in-SharedAt : goal.element-requires-in-SharedAt
element-requires-in-SharedAt c = search rules depth 1 fits 30

pub from_residual-requires-in_err-element-in-SharedAt : goal.from_residual-requires-in_err-element-in-SharedAt
from_residual-requires-in_err-element-in-SharedAt c = search rules depth 1 fits 30

pub from_residual-requires-in_err-negated-in-Neg : goal.from_residual-requires-in_err-negated-in-Neg
from_residual-requires-in_err-negated-in-Neg c = search rules depth 1 fits 30

pub is_zero-requires : goal.is_zero-requires
is_zero-requires c = search rules depth 1 fits 30

pub negated-requires : goal.negated-requires
negated-requires c = search rules depth 1 fits 30

pub next_answer-requires : goal.next_answer-requires
next_answer-requires c = search rules depth 1 fits 30

pub returns-in-Not : goal.returns-in-Not
returns-in-Not c = search rules depth 1 fits 30

pub returns-in-Or : goal.returns-in-Or
returns-in-Or c = search rules depth 1 fits 30

pub returns-in_default : goal.returns-in_default
returns-in_default c = search rules depth 1 fits 30

pub returns-in_err-element-in-SharedAt : goal.returns-in_err-element-in-SharedAt
returns-in_err-element-in-SharedAt c = search rules depth 1 fits 30

pub returns-in_err-negated-in-Neg : goal.returns-in_err-negated-in-Neg
returns-in_err-negated-in-Neg c = search rules depth 1 fits 30

pub returns-in_ok-element-in-SharedAt : goal.returns-in_ok-element-in-SharedAt
returns-in_ok-element-in-SharedAt c = search rules depth 1 fits 30

pub returns-in_ok-negated-in-Neg-clause-err : goal.returns-in_ok-negated-in-Neg-clause-err
returns-in_ok-negated-in-Neg-clause-err c = search rules depth 1 fits 30

pub returns-in_ok-negated-in-Neg-clause-ok : goal.returns-in_ok-negated-in-Neg-clause-ok
returns-in_ok-negated-in-Neg-clause-ok c = search rules depth 1 fits 30

pub truth-requires : goal.truth-requires
truth-requires c = search rules depth 1 fits 30
