use Rattle.std.proofs.Common.{rules, arith}
use Rattle.std.proofs.lemmas.Grind.{common_steps}
use Rattle.ppd_graph.proofs.missing.Numbers.missing_of_sem.Goals as goal

pub absent-requires : goal.absent-requires
absent-requires c = search rules depth 1 fits 30

pub absent-requires-2 : goal.absent-requires-2
absent-requires-2 c = search rules depth 1 fits 30

pub max-given-requires : goal.max-given-requires
max-given-requires c = search rules depth 1 fits 30

pub of-requires : goal.of-requires
of-requires c = search rules depth 1 fits 30

pub of-taken-requires : goal.of-taken-requires
of-taken-requires c = search rules depth 1 fits 30

pub returns-in-Some : goal.returns-in-Some
returns-in-Some c = grind (arith, common_steps) steps 250000

pub returns-in-Some-absent : goal.returns-in-Some-absent
returns-in-Some-absent c = grind (arith, common_steps) steps 250000

pub returns-then-given-taken-clause-cost : goal.returns-then-given-taken-clause-cost
returns-then-given-taken-clause-cost c = search rules depth 1 fits 30

pub returns-then-given-taken-clause-taken : goal.returns-then-given-taken-clause-taken
returns-then-given-taken-clause-taken c = search rules depth 1 fits 30

pub returns-then-given-taken-clause-value : goal.returns-then-given-taken-clause-value
returns-then-given-taken-clause-value c = grind (arith, common_steps) steps 250000

pub start_of-start-requires : goal.start_of-start-requires
start_of-start-requires c = search rules depth 1 fits 30

pub returns-clause-cost : goal.returns-clause-cost
returns-clause-cost c = search rules depth 1 fits 30

pub returns-clause-taken : goal.returns-clause-taken
returns-clause-taken c = grind (arith, common_steps) steps 250000
