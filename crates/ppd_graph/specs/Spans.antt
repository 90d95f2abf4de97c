-- The own steps of an interval.
use Rattle.std.specs.Prelude.{ℕ, Option, Some, None}
use Rattle.ppd_model.specs.Intervals.{Span}

-- of an interval, 0 where it is not there
abbrev pub steps_of_span : Option Span → ℕ
steps_of_span None = 0
steps_of_span (Some i) = i.steps
