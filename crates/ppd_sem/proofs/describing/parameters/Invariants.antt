use Rattle.std.proofs.Common.{◌≡◌, ◌++◌, drop}
use Rattle.ppd_sem.proofs.describing.parameters.Given as goal
use Rattle.ppd_sem.specs.Reads.{local_accesses}

abbrev pub invariant-loop-index : goal.invariant-loop-index
invariant-loop-index l = l.writes ++ local_accesses l.frame l.index (drop l.index l.values) ≡ local_accesses l.frame 0 l.values
