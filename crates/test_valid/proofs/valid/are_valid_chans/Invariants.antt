use Rattle.std.proofs.Common.{ℕ, ◌<◌, ◌≤◌, get_or}
use Rattle.ppd_ast.specs.Valid.{IsName}
use Rattle.ppd_ast.specs.declared.program.Chan.{Chan}
use Rattle.ppd_ast.specs.declared.limits.TheConstants.{LEAST_CAPACITY, MOST_CAPACITY}
use Rattle.test_valid.proofs.valid.are_valid_chans.Given as goal

abbrev pub invariant-loop-index : goal.invariant-loop-index
invariant-loop-index l = (k : ℕ) (d : Chan) → k < l.index → IsName (get_or l.chans k d).name × (LEAST_CAPACITY ≤ (get_or l.chans k d).capacity) × ((get_or l.chans k d).capacity ≤ MOST_CAPACITY)
