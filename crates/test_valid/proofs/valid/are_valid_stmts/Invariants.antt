use Rattle.std.proofs.Common.{ℕ, ◌<◌, get_or}
use Rattle.ppd_ast.specs.Valid.{IsValidStmt}
use Rattle.ppd_ast.specs.declared.program.Stmt.{Stmt}
use Rattle.test_valid.proofs.valid.are_valid_stmts.Given as goal

abbrev pub invariant-loop-index : goal.invariant-loop-index
invariant-loop-index l = (k : ℕ) (d : Stmt) → k < l.index → IsValidStmt l.program k (get_or l.program.stmts k d)
