use Rattle.std.proofs.Common.{◌≡◌, length}
use Rattle.ppd_flow_past.specs.Keeping.{IsNoneKept}
use Rattle.ppd_flow_past.proofs.kept_replays.KeptReplays.new.Given as goal

abbrev pub invariant-loop-process : goal.invariant-loop-process
invariant-loop-process l = record {
  none : IsNoneKept l.processes;
  count : length l.processes ≡ l._process;
}
