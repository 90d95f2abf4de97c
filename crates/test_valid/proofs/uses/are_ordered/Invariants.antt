use Rattle.std.proofs.Common.{ℕ, ◌<◌, get_or}
use Rattle.ppd_ast.specs.Table.{AreChildrenBelow}
use Rattle.ppd_ast.specs.declared.program.Expr.{Expr}
use Rattle.test_valid.proofs.uses.are_ordered.Given as goal

abbrev pub invariant-loop-index : goal.invariant-loop-index
invariant-loop-index l = (k : ℕ) (d : Expr) → k < l.index → AreChildrenBelow k (get_or l.exprs k d)
