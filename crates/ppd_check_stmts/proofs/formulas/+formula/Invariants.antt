use Rattle.std.proofs.Common.{◌-◌, ◌*◌, length}
use Rattle.ppd_check_names.proofs.Table.Trees.{left_at}
use Rattle.ppd_check_stmts.proofs.formulas.+formula.Given as goal

abbrev pub decreases-formula : goal.decreases-formula
decreases-formula g l = left_at l.source.nodes.now l.operand

abbrev pub decreases-formula_at : goal.decreases-formula_at
decreases-formula_at g l = 2 * (length l.source.nodes.now - l.id)
