use Rattle.std.proofs.Common.{◌≡◌}
use Rattle.std.specs.Prelude.{replicate, pos}
use Rattle.ppd_sem.proofs.describing.cleared.Given as goal
use Rattle.ppd_sem.specs.Reads.{local_accesses}

abbrev pub invariant-loop-index : goal.invariant-loop-index
invariant-loop-index l = l.writes ≡ local_accesses l.frame l.base (replicate l.index (pos 0))
