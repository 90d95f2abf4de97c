-- Intervals as an index has them.
use Rattle.std.specs.Prelude.{ℕ, List, [], Option, Some, None}
use Rattle.ppd_ast.specs.declared.plan.Plan.{Plan}
use Rattle.ppd_ast.specs.declared.program.Program.{Program}
use Rattle.ppd_index.specs.declared.interval.Interval.{Interval as IntervalOf}
use Rattle.ppd_index.specs.declared.row.Row.{Row}
use Rattle.ppd_session.specs.Known.{Interval}
use Rattle.ppd_session.specs.Texts.{interval_line}

abbrev pub of_interval : IntervalOf → Interval
of_interval i = record { block = i.block; parent = i.parent; closed = i.closed }

abbrev pub of_row : Row → Interval
of_row r = record { block = r.block; parent = r.parent; closed = r.closed }

-- the line of interval k, if its row is there
abbrev pub shown_at : Program → Plan → (k : ℕ) → Option Row → List ℕ
shown_at p plan k None = []
shown_at p plan k (Some r) = interval_line p plan k (of_row r)
