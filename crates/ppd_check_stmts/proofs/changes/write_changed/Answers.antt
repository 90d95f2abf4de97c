use Rattle.std.proofs.Common.{rules, arith}
use Rattle.std.proofs.lemmas.Grind.{common_steps}
use Rattle.ppd_check_stmts.proofs.changes.write_changed.Goals as goal

pub change_at-requires : goal.change_at-requires
change_at-requires g c = search rules depth 1 fits 30

pub goal_at-goal-requires : goal.goal_at-goal-requires
goal_at-goal-requires g c = search rules depth 1 fits 30

pub operand_at-operand-requires : goal.operand_at-operand-requires
operand_at-operand-requires g c = search rules depth 1 fits 30

pub returns-in-None : goal.returns-in-None
returns-in-None g c = grind (arith, common_steps) steps 250000

pub returns-in-Some : goal.returns-in-Some
returns-in-Some g c = grind (arith, common_steps) steps 250000

pub write_assign-requires : goal.write_assign-requires
write_assign-requires g c = search rules depth 1 fits 30

pub write_change-requires : goal.write_change-requires
write_change-requires g c = search rules depth 1 fits 30
