use Rattle.std.proofs.Common.{◌≡◌, ◌++◌, drop}
use Rattle.ppd_flow.specs.Far.{RoseWithin, far_of_reads_at}
use Rattle.ppd_flow.proofs.far.read_processes.Given as goal

-- with the processes of the reads that are left they are all
abbrev pub invariant-loop-read : goal.invariant-loop-read
invariant-loop-read g l = record {
  is : l.processes ++ far_of_reads_at l.search l.place (drop l.read-index l.reads) ≡ far_of_reads_at l.search l.place l.reads;
  cost : RoseWithin l.search.past.now l.search.process l.initial.steps l.steps;
}
