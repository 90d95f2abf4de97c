use Rattle.std.proofs.Common.{◌≡◌, ◌++◌, take, map}
use Rattle.ppd_index.specs.Indexes.{rows_at}
use Rattle.ppd_session.specs.Rows.{of_row}
use Rattle.ppd_session.proofs.blocks.put_intervals.Given as goal
use Rattle.ppd_session.proofs.KnownWords.{interval_lines}

abbrev pub invariant-loop-number : goal.invariant-loop-number
invariant-loop-number l = l.text.items ≡ l.initial.text.items ++ interval_lines l.program l.plan 0 (take l.number (map of_row (rows_at l.index.tables l.process)))
