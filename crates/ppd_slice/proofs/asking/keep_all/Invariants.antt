use Rattle.std.proofs.Common.{take}
use Rattle.ppd_flow_past.specs.Keeping.{RoseByKept}
use Rattle.ppd_slice.specs.Asked.{AreAllKept, AreKeptFor, AreStillKept, IsKept}
use Rattle.ppd_slice.proofs.asking.keep_all.Given as goal

abbrev pub invariant-loop-process : goal.invariant-loop-process
invariant-loop-process g l = record {
  kept : IsKept l.past l.kept;
  still : AreStillKept l.past l.initial.kept.replays l.kept.replays;
  all : AreAllKept l.past l.kept.replays (take l.process-index l.processes);
  only : AreKeptFor l.processes l.initial.kept.replays l.kept.replays;
  cost : RoseByKept l.past l.initial.kept.replays l.kept.replays l.initial.steps l.steps;
}
