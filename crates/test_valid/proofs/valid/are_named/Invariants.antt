use Rattle.std.proofs.Common.{ℕ, ◌<◌, get_or}
use Rattle.ppd_ast.specs.Valid.{IsName}
use Rattle.ppd_ast.specs.declared.program.Var.{Var}
use Rattle.test_valid.proofs.valid.are_named.Given as goal

abbrev pub invariant-loop-index : goal.invariant-loop-index
invariant-loop-index l = (k : ℕ) (d : Var) → k < l.index → IsName (get_or l.vars k d).name
