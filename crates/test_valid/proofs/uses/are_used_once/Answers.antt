use Rattle.std.proofs.Common.{◌≡◌, inl, inr, true}
use Rattle.std.proofs.lemmas.Bool.{cases_lt}
use Rattle.test_valid.proofs.uses.are_used_once.Goals as goal

pub returns-then-not-is_window_used_once : goal.returns-then-not-is_window_used_once
returns-then-not-is_window_used_once c = (
  λ e. cc,
  λ h.
      let yes : c.is_window_used_once.result ≡ true = c.is_window_used_once.ensures.1 (λ n low high inside. h n inside) in
      cc,
)

pub loop-start-preserved : goal.loop-start-preserved
loop-start-preserved c n high inside = elim (cases_lt n c.loop-start.start) [
  | inl low ↦ c.loop-start.invariant n low inside
  | inr up ↦ c.is_window_used_once.ensures.0 c.if-not-is_window_used_once.false n up high inside
]
