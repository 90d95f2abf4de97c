use Rattle.std.proofs.Common.{ℕ, ◌<◌, get_or}
use Rattle.ppd_ast.specs.Uses.{kind_uses}
use Rattle.ppd_ast.specs.Valid.{IsValidUse}
use Rattle.test_valid.proofs.valid.are_valid_uses.Given as goal

abbrev pub invariant-loop-place : goal.invariant-loop-place
invariant-loop-place l = (k d : ℕ) → k < l.place → IsValidUse l.program l.body (get_or (kind_uses l.kind) k d)
