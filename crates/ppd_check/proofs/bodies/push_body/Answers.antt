use Rattle.std.proofs.Common.{arith}
use Rattle.std.proofs.lemmas.Grind.{common_steps}
use Rattle.ppd_check.proofs.bodies.push_body.Goals as goal

pub returns : goal.returns
returns c = grind (arith, common_steps) steps 250000

pub returns-in_err-locals : goal.returns-in_err-locals
returns-in_err-locals c = grind (arith, common_steps) steps 250000

pub returns-in_err-name : goal.returns-in_err-name
returns-in_err-name c = grind (arith, common_steps) steps 250000
