use Rattle.std.proofs.Common.{rules, arith}
use Rattle.std.proofs.lemmas.Grind.{common_steps}
use Rattle.ppd_emul.proofs.wanting.wanted_of.Goals as goal

pub postlog_of-requires : goal.postlog_of-requires
postlog_of-requires c = search rules depth 1 fits 30

pub returns : goal.returns
returns c = grind (arith, common_steps) steps 250000
