use Rattle.std.proofs.Common.{rules}
use Rattle.ppd_check_stmts.proofs.parts.test_among.Goals as goal

pub child_at-requires : goal.child_at-requires
child_at-requires g c = search rules depth 1 fits 30

pub is_formula-requires : goal.is_formula-requires
is_formula-requires g c = search rules depth 1 fits 30

pub loop-at-init : goal.loop-at-init
loop-at-init g c = search rules depth 1 fits 30

pub loop-at-smaller : goal.loop-at-smaller
loop-at-smaller g c = search rules depth 1 fits 30

pub returns : goal.returns
returns g c = search rules depth 1 fits 30

pub returns-then-is_formula-clause-cost : goal.returns-then-is_formula-clause-cost
returns-then-is_formula-clause-cost g c = search rules depth 1 fits 30

pub returns-then-is_formula-clause-nodes : goal.returns-then-is_formula-clause-nodes
returns-then-is_formula-clause-nodes g c = search rules depth 1 fits 30

pub returns-then-is_formula-clause-within : goal.returns-then-is_formula-clause-within
returns-then-is_formula-clause-within g c = search rules depth 1 fits 30

pub tick-requires : goal.tick-requires
tick-requires g c = search rules depth 1 fits 30
