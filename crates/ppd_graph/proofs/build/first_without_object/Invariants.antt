use Rattle.std.proofs.Common.{◌≡◌, drop, ◌+◌}
use Rattle.ppd_graph.specs.Refusals.{without_object}
use Rattle.ppd_graph.proofs.build.first_without_object.Given as goal

abbrev pub invariant-loop-one : goal.invariant-loop-one
invariant-loop-one g l = record {
  holds : without_object l.program (drop l.one-index l.placed) ≡ without_object l.program l.placed;
  spent : l.steps ≡ l.fn.steps + l.one-index;
}
