use Rattle.std.proofs.Common.{◌≡◌, ◌≤◌, ◌-◌}
use Rattle.std.specs.List.{flat_map, range_with_len}
use Rattle.ppd_ast.specs.Lookups.{kind_of}
use Rattle.ppd_sets.specs.Used.{callee}
use Rattle.ppd_sets.proofs.bodies.calls_in.Given as goal

abbrev pub invariant-loop-number : goal.invariant-loop-number
invariant-loop-number l = record {
  gathered : l.ids ≡ flat_map (λ s. callee (kind_of l.program s)) (range_with_len l.body.first (l.number - l.body.first));
  within : l.number - l.body.first ≤ l.number-end - l.body.first;
}
