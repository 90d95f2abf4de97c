use Rattle.std.proofs.Common.{rules, arith}
use Rattle.std.proofs.lemmas.Grind.{common_steps}
use Rattle.ppd_clean.proofs.by_order.has_race.Goals as goal

pub is_in_past-requires : goal.is_in_past-requires
is_in_past-requires c = search rules depth 1 fits 30

pub loop-first-init : goal.loop-first-init
loop-first-init c = search rules depth 1 fits 30

pub loop-first-preserved : goal.loop-first-preserved
loop-first-preserved c = grind (arith, common_steps) steps 250000

pub loop-first-smaller : goal.loop-first-smaller
loop-first-smaller c = search rules depth 1 fits 30

pub returns : goal.returns
returns c = grind (arith, common_steps) steps 250000

pub returns-then-is_in_past : goal.returns-then-is_in_past
returns-then-is_in_past c = grind (arith, common_steps) steps 250000
