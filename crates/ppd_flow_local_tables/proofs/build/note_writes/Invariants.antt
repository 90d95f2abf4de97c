use Rattle.std.proofs.Common.{◌≡◌, ℕ, take}
use Rattle.ppd_flow_local_tables.specs.Built.{writes_by}
use Rattle.ppd_flow_local_tables.specs.Kept.{row_of}
use Rattle.ppd_flow_local_tables.proofs.build.note_writes.Given as goal

abbrev pub invariant-loop-access : goal.invariant-loop-access
invariant-loop-access l =
    (f k : ℕ) → row_of l.writes f k ≡ writes_by l.item (take l.access-index l.accesses) f k (row_of l.fn.writes f k)
