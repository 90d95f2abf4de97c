use Rattle.std.proofs.Common.{rules, arith}
use Rattle.std.proofs.lemmas.Grind.{elements}
use Rattle.ppd_check_stmts.proofs.calls.function.Goals as goal

pub fit_call-requires : goal.fit_call-requires
fit_call-requires g c = search rules depth 1 fits 30

pub returns-in-Some-Function : goal.returns-in-Some-Function
returns-in-Some-Function g c = grind (arith, elements) steps 250000

pub returns-in_default : goal.returns-in_default
returns-in_default g c = grind (arith, elements) steps 250000

pub returns-in_default-2 : goal.returns-in_default-2
returns-in_default-2 g c = search rules depth 1 fits 30

pub used-requires : goal.used-requires
used-requires g c = search rules depth 1 fits 30
