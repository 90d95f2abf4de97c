use Rattle.std.proofs.Common.{rules, arith}
use Rattle.std.proofs.lemmas.Grind.{common_steps, elements}
use Rattle.ppd_graph.proofs.build.are_few.Goals as goal

pub len-requires : goal.len-requires
len-requires c = search rules depth 1 fits 30

pub loop-list-init : goal.loop-list-init
loop-list-init c = search rules depth 1 fits 30

pub loop-list-preserved : goal.loop-list-preserved
loop-list-preserved c = grind (arith, elements) steps 250000

pub loop-list-smaller : goal.loop-list-smaller
loop-list-smaller c = search rules depth 1 fits 30

pub returns : goal.returns
returns c = grind (arith, common_steps) steps 250000

pub tick-requires : goal.tick-requires
tick-requires c = search rules depth 1 fits 30

pub returns-then-len-ge4294967295-clause-cost : goal.returns-then-len-ge4294967295-clause-cost
returns-then-len-ge4294967295-clause-cost c = search rules depth 1 fits 30

pub returns-then-len-ge4294967295-clause-taken : goal.returns-then-len-ge4294967295-clause-taken
returns-then-len-ge4294967295-clause-taken c = search rules depth 1 fits 30
