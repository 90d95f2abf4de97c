use Rattle.std.proofs.Common.{ℕ, ◌<◌, get_or}
use Rattle.ppd_ast.specs.Valid.{IsValidBody}
use Rattle.ppd_ast.specs.declared.program.Body.{Body}
use Rattle.test_valid.proofs.valid.are_valid_bodies.Given as goal

abbrev pub invariant-loop-index : goal.invariant-loop-index
invariant-loop-index l = (k : ℕ) (d : Body) → k < l.index → IsValidBody l.program k (get_or l.program.bodies k d)
