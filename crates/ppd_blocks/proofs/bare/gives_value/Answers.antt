use Rattle.std.proofs.Common.{rules, arith}
use Rattle.std.proofs.lemmas.Grind.{elements}
use Rattle.ppd_blocks.proofs.bare.gives_value.Goals as goal

pub get-requires : goal.get-requires
get-requires c = search rules depth 1 fits 30

pub returns-in-None : goal.returns-in-None
returns-in-None c = grind (arith, elements) steps 250000

pub returns-in-Process : goal.returns-in-Process
returns-in-Process c = search rules depth 1 fits 30

pub returns-in-Some : goal.returns-in-Some
returns-in-Some c = grind (arith, elements) steps 250000
