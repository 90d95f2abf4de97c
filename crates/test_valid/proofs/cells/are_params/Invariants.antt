use Rattle.std.proofs.Common.{◌≡◌, ◌<◌, ℕ, None, IsSomeAnd}
use Rattle.std.specs.Prelude.{slice_get}
use Rattle.test_valid.proofs.cells.are_params.Given as goal

abbrev pub invariant-loop-place : goal.invariant-loop-place
invariant-loop-place l = (k : ℕ) → k < l.place → IsSomeAnd (slice_get l.vars k) (λ v. (v.base ≡ k) × (v.len ≡ None))
