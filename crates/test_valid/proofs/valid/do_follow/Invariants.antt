use Rattle.std.proofs.Common.{◌↔◌, drop}
use Rattle.ppd_ast.specs.Valid.{Follow}
use Rattle.test_valid.proofs.valid.do_follow.Given as goal

abbrev pub invariant-loop-body : goal.invariant-loop-body
invariant-loop-body l = Follow l.next (drop l.body-index l.bodies) l.end ↔ Follow 0 l.bodies l.end
