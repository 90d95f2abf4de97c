use Rattle.std.proofs.Common.{rules, arith}
use Rattle.std.proofs.lemmas.Grind.{common_steps}
use Rattle.ppd_flow_shared.proofs.event.value_to.Goals as goal

pub is_shared-requires : goal.is_shared-requires
is_shared-requires c = search rules depth 1 fits 30

pub loop-access-init : goal.loop-access-init
loop-access-init c = search rules depth 1 fits 30

pub loop-access-preserved : goal.loop-access-preserved
loop-access-preserved c = grind (arith, common_steps) steps 250000

pub loop-access-smaller : goal.loop-access-smaller
loop-access-smaller c = search rules depth 1 fits 30

pub returns : goal.returns
returns c = grind (arith, common_steps) steps 250000

pub returns-then-is_shared : goal.returns-then-is_shared
returns-then-is_shared c = grind (arith, common_steps) steps 250000
