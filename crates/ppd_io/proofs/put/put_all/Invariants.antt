use Rattle.std.proofs.Common.{length, take, ◌-◌, ◌≤◌}
use Rattle.ppd_io.specs.Content.{Appends}
use Rattle.ppd_io.proofs.put.put_all.Given as goal

abbrev pub invariant-loop-at : goal.invariant-loop-at
invariant-loop-at g l = record {
  within : l.at ≤ length l.bytes;
  bytes : Appends (g.O.Sink.written l.initial.out) (g.O.Sink.written l.out) (take l.at l.bytes);
  later : g.O.Sink.faults l.initial.out ≤ g.O.Sink.faults l.out;
}

abbrev pub decreases-loop-at : goal.decreases-loop-at
decreases-loop-at g l = length l.bytes - l.at
