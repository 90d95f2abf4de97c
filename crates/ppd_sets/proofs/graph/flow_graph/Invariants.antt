use Rattle.std.proofs.Common.{◌≡◌, ◌≤◌, ◌-◌, map}
use Rattle.std.specs.List.{range_with_len}
use Rattle.ppd_sets.specs.Flow.{next_of}
use Rattle.ppd_sets.proofs.graph.flow_graph.Given as goal

abbrev pub invariant-loop-stmt : goal.invariant-loop-stmt
invariant-loop-stmt l = record {
  rows : l.rows ≡ map (next_of l.program) (range_with_len l.found.first (l.stmt - l.found.first));
  within : l.stmt - l.found.first ≤ l.found.end - l.found.first;
}
