-- What a replay costs beside the steps of its interval.
use Rattle.std.specs.Prelude.{ℕ, ◌+◌, ◌*◌, ◌≤◌, length, Result, IfOk}
use Rattle.ppd_model.specs.declared.block_trace.BlockTrace.{BlockTrace}
use Rattle.ppd_model.specs.declared.block_trace.EmulError.{EmulError}

-- there are at most two items for each own step: a call and the interval that it begins
abbrev pub HasFewItems : (before after : ℕ) → Result BlockTrace EmulError → Type 0
HasFewItems before after answer = IfOk answer (λ t. length t.items + 2 * before ≤ 2 * after)
