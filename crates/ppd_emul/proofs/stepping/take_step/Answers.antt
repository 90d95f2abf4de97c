use Rattle.std.proofs.Common.{rules, arith}
use Rattle.std.proofs.lemmas.Grind.{common_steps}
use Rattle.ppd_emul.proofs.stepping.take_step.Goals as goal

pub count-requires : goal.count-requires
count-requires c = search rules depth 1 fits 30

pub meet-requires : goal.meet-requires
meet-requires c = search rules depth 1 fits 30

pub returns : goal.returns
returns c = grind (arith, common_steps) steps 250000

pub returns-in_err-meet : goal.returns-in_err-meet
returns-in_err-meet c = grind (arith, common_steps) steps 250000
