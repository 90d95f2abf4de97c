use Rattle.std.specs.Prelude.{false}
use Rattle.ppd_sets.specs.Used.{reads_at, writes_at}
use Rattle.std.proofs.Common.{◌≡◌, map}
use Rattle.std.specs.List.{range_with_len}
use Rattle.ppd_sets.specs.Flow.{next_of}
use Rattle.ppd_deps.specs.Named.{shared_reads, own_vars, running}
use Rattle.ppd_deps.proofs.tables.tables_of.Given as goal

abbrev pub invariant-loop-number : goal.invariant-loop-number
invariant-loop-number l = record {
  next : l.tables.next ≡ map (next_of l.program) (range_with_len 0 l.number);
  running : l.tables.running ≡ running l.program;
  shared : l.tables.shared ≡ map (shared_reads l.program) (range_with_len 0 l.number);
  local : l.tables.local ≡ map (own_vars l.program (reads_at false l.program)) (range_with_len 0 l.number);
  written : l.tables.written ≡ map (own_vars l.program (writes_at false l.program)) (range_with_len 0 l.number);
}
