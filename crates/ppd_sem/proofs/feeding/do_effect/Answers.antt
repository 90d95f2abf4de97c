use Rattle.std.proofs.Common.{rules, arith}
use Rattle.std.proofs.lemmas.Grind.{common_steps}
use Rattle.ppd_sem.proofs.feeding.do_effect.Goals as goal

pub body_in-requires : goal.body_in-requires
body_in-requires c = search rules depth 1 fits 30

pub branch-values-requires : goal.branch-values-requires
branch-values-requires c = search rules depth 1 fits 30

pub branch_in-requires : goal.branch_in-requires
branch_in-requires c = search rules depth 1 fits 30

pub clear_top-requires : goal.clear_top-requires
clear_top-requires c = search rules depth 1 fits 30

pub finish-requires : goal.finish-requires
finish-requires c = search rules depth 1 fits 30

pub go_on-requires : goal.go_on-requires
go_on-requires c = grind (arith, common_steps) steps 250000

pub invoke-requires : goal.invoke-requires
invoke-requires c = grind (arith, common_steps) steps 250000

pub kind_at-requires : goal.kind_at-requires
kind_at-requires c = search rules depth 1 fits 30

pub kind_at-requires-in-Turn : goal.kind_at-requires-in-Turn
kind_at-requires-in-Turn c = search rules depth 1 fits 30

pub print-requires : goal.print-requires
print-requires c = search rules depth 1 fits 30

pub returns-in-Back : goal.returns-in-Back
returns-in-Back c = search rules depth 1 fits 30

pub returns-in-Branch : goal.returns-in-Branch
returns-in-Branch c = search rules depth 1 fits 30

pub returns-in-Clear : goal.returns-in-Clear
returns-in-Clear c = search rules depth 1 fits 30

pub returns-in-Invoke : goal.returns-in-Invoke
returns-in-Invoke c = search rules depth 1 fits 30

pub returns-in-Print : goal.returns-in-Print
returns-in-Print c = search rules depth 1 fits 30

pub returns-in-Receive : goal.returns-in-Receive
returns-in-Receive c = search rules depth 1 fits 30

pub returns-in-Turn : goal.returns-in-Turn
returns-in-Turn c = search rules depth 1 fits 30

pub returns-in_err-values-in-Invoke : goal.returns-in_err-values-in-Invoke
returns-in_err-values-in-Invoke c = search rules depth 1 fits 30

pub turn-requires : goal.turn-requires
turn-requires c = search rules depth 1 fits 30

pub write_top-requires : goal.write_top-requires
write_top-requires c = search rules depth 1 fits 30

pub write_top-requires-in-Receive : goal.write_top-requires-in-Receive
write_top-requires-in-Receive c = search rules depth 1 fits 30
