use Rattle.std.proofs.Common.{rules, arith}
use Rattle.std.proofs.lemmas.Grind.{common_steps}
use Rattle.ppd_race.proofs.union.past.Goals as goal

pub get-requires : goal.get-requires
get-requires c = search rules depth 1 fits 30

pub returns-in-Some : goal.returns-in-Some
returns-in-Some c = grind (arith, common_steps) steps 250000

pub returns-in_default : goal.returns-in_default
returns-in_default c = grind (arith, common_steps) steps 250000

pub returns-in_default-2 : goal.returns-in_default-2
returns-in_default-2 c = grind (arith, common_steps) steps 250000
