use Rattle.std.proofs.Common.{◌≡◌, ◌<◌, ℕ, IsSomeAnd, get_or}
use Rattle.std.specs.Prelude.{slice_get}
use Rattle.test_valid.proofs.order.do_stand_in.Given as goal

abbrev pub invariant-loop-number : goal.invariant-loop-number
invariant-loop-number l = (k d : ℕ) → k < l.number-index → IsSomeAnd (slice_get l.stmts (get_or l.list k d)) (λ s. (s.parent ≡ l.parent) × (s.body ≡ l.body))
