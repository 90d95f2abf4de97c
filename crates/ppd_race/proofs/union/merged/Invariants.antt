use Rattle.std.proofs.Common.{◌≡◌, ◌≤◌, ◌+◌, drop, length}
use Rattle.ppd_race.proofs.Merged.{IsMerged}
use Rattle.ppd_race.proofs.union.merged.Given as goal

abbrev pub invariant-loop-cell : goal.invariant-loop-cell
invariant-loop-cell g l = record {
  merged : IsMerged l.reads l.writes l.cells (drop l.read l.reads) (drop l.write l.writes);
  taken : l.steps ≡ l.fn.steps + length l.cells;
  spent : l.steps + (length (drop l.read l.reads) + length (drop l.write l.writes)) ≤ l.fn.steps + (length l.reads + length l.writes);
}

abbrev pub decreases-loop-cell : goal.decreases-loop-cell
decreases-loop-cell g l = length (drop l.read l.reads) + length (drop l.write l.writes)
