use Rattle.std.proofs.Common.{rules}
use Rattle.ppd_check_stmts.proofs.changes.change_at.Goals as goal

pub kind_at-requires : goal.kind_at-requires
kind_at-requires c = search rules depth 1 fits 30

pub operand_at-operand-requires : goal.operand_at-operand-requires
operand_at-operand-requires c = search rules depth 1 fits 30

pub returns-in-AddMark : goal.returns-in-AddMark
returns-in-AddMark c = search rules depth 1 fits 30

pub returns-in-AssignMark : goal.returns-in-AssignMark
returns-in-AssignMark c = search rules depth 1 fits 30

pub returns-in-IncreaseMark : goal.returns-in-IncreaseMark
returns-in-IncreaseMark c = search rules depth 1 fits 30

pub returns-in-SubtractMark : goal.returns-in-SubtractMark
returns-in-SubtractMark c = search rules depth 1 fits 30

pub returns-in_default : goal.returns-in_default
returns-in_default c = search rules depth 1 fits 30
