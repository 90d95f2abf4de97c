use Rattle.std.specs.Prelude.{false}
use Rattle.std.proofs.Common.{◌≡◌, map}
use Rattle.std.specs.List.{range_with_len}
use Rattle.ppd_sets.specs.Used.{local_in, reads_at, writes_at}
use Rattle.ppd_sets.proofs.rows.loop_rows.Given as goal

abbrev pub invariant-loop-stmt : goal.invariant-loop-stmt
invariant-loop-stmt l = record {
  used : l.rows.used ≡ map (local_in l.program (reads_at false l.program)) (range_with_len 0 l.stmt);
  defined : l.rows.defined ≡ map (local_in l.program (writes_at false l.program)) (range_with_len 0 l.stmt);
}
