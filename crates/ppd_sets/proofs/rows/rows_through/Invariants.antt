use Rattle.std.specs.Prelude.{true}
use Rattle.std.proofs.Common.{◌≡◌, map}
use Rattle.std.specs.List.{range_with_len}
use Rattle.ppd_sets.specs.Used.{shared_through, reads_at, writes_at}
use Rattle.ppd_sets.proofs.rows.rows_through.Given as goal

abbrev pub invariant-loop-body : goal.invariant-loop-body
invariant-loop-body l = record {
  used : l.rows.used ≡ map (shared_through l.program (reads_at true l.program)) (range_with_len 0 l.body);
  defined : l.rows.defined ≡ map (shared_through l.program (writes_at true l.program)) (range_with_len 0 l.body);
}
