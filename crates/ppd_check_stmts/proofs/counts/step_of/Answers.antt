use Rattle.std.proofs.Common.{rules, arith}
use Rattle.std.proofs.lemmas.Grind.{common_steps}
use Rattle.ppd_check_stmts.proofs.counts.step_of.Goals as goal

pub past_semicolon-from-requires : goal.past_semicolon-from-requires
past_semicolon-from-requires g c = search rules depth 1 fits 30

pub past_semicolon-requires : goal.past_semicolon-requires
past_semicolon-requires g c = search rules depth 1 fits 30

pub returns : goal.returns
returns g c = grind (arith, common_steps) steps 250000
