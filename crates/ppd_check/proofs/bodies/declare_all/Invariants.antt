use Rattle.std.proofs.Common.{take, ◌≤◌, ◌+◌, ◌*◌}
use Rattle.std.specs.List.{flat_map}
use Rattle.ppd_check.specs.Bodies.{Parametered}
use Rattle.ppd_check_names.specs.Nodes.{phrases_of}
use Rattle.ppd_check_names.specs.Reading.{as_names}
use Rattle.ppd_check_names.specs.Cost.{total, plain_at, nested_at}
use Rattle.ppd_check.proofs.bodies.declare_all.Given as goal

-- the parameters that the children before say
abbrev pub invariant-loop-child : goal.invariant-loop-child
invariant-loop-child g l = record {
  declares : Parametered (flat_map as_names (phrases_of l.source.nodes.now (take l.child-index l.child-items))) l.fn.frame l.frame l.fn.found l.found;
  cost : l.steps ≤ l.fn.steps + 7 * total (plain_at l.source.nodes.now) (take l.child-index l.child-items) + 7 * total (nested_at l.source.nodes.now) (take l.child-index l.child-items);
}
