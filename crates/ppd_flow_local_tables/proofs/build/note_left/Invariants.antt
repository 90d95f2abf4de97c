use Rattle.std.proofs.Common.{◌≡◌, ℕ, take}
use Rattle.ppd_flow_local_tables.specs.Built.{left_by}
use Rattle.ppd_flow_local_tables.specs.Kept.{row_of}
use Rattle.ppd_flow_local_tables.proofs.build.note_left.Given as goal

abbrev pub invariant-loop-cell : goal.invariant-loop-cell
invariant-loop-cell l =
    (f k : ℕ)
    → row_of l.loops f k ≡ left_by l.item l.interval l.frame (take l.cell-index l.cells) f k (row_of l.fn.loops f k)
