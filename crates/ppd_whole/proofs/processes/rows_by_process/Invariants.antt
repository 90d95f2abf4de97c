use Rattle.std.proofs.Common.{◌≡◌, drop, map, take}
use Rattle.std.specs.List.{flat_map}
use Rattle.ppd_flow.specs.SharedCells.{seens_in}
use Rattle.ppd_whole.proofs.processes.rows_by_process.Given as goal

abbrev pub invariant-loop-p : goal.invariant-loop-p
invariant-loop-p l = record {
  left : l.left ≡ flat_map (λ x. x.items) (drop l.p (seens_in l.past));
  own : map (λ r. r.now) l.all.items ≡ map (λ x. x.items) (take l.p (seens_in l.past));
}
