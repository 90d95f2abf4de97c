use Rattle.std.proofs.Common.{rules, arith}
use Rattle.std.proofs.lemmas.Grind.{common_steps}
use Rattle.ppd_graph.proofs.missing.Numbers.missing_of_chan.Goals as goal

pub absent-requires : goal.absent-requires
absent-requires c = search rules depth 1 fits 30

pub absent-requires-2 : goal.absent-requires-2
absent-requires-2 c = search rules depth 1 fits 30

pub missing_of_places-requires : goal.missing_of_places-requires
missing_of_places-requires c = search rules depth 1 fits 30

pub of-received-requires : goal.of-received-requires
of-received-requires c = search rules depth 1 fits 30

pub of-sent-requires : goal.of-sent-requires
of-sent-requires c = search rules depth 1 fits 30

pub returns-in-Some : goal.returns-in-Some
returns-in-Some c = grind (arith, common_steps) steps 250000

pub returns-then-sent-received : goal.returns-then-sent-received
returns-then-sent-received c = grind (arith, common_steps) steps 250000

pub returns-clause-cost : goal.returns-clause-cost
returns-clause-cost c = search rules depth 1 fits 30

pub returns-clause-taken : goal.returns-clause-taken
returns-clause-taken c = grind (arith, common_steps) steps 250000

pub returns-in-Some-absent-clause-cost : goal.returns-in-Some-absent-clause-cost
returns-in-Some-absent-clause-cost c = search rules depth 1 fits 30

pub returns-in-Some-absent-clause-taken : goal.returns-in-Some-absent-clause-taken
returns-in-Some-absent-clause-taken c = search rules depth 1 fits 30
