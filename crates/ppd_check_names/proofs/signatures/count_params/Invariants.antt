use Rattle.std.proofs.Common.{◌≡◌, length, take, ◌≤◌, ◌+◌, ◌*◌}
use Rattle.std.specs.List.{flat_map}
use Rattle.ppd_check_names.specs.Reading.{as_names}
use Rattle.ppd_check_names.specs.Nodes.{phrases_of}
use Rattle.ppd_check_names.specs.Cost.{total, plain_at, nested_at}
use Rattle.ppd_check_names.proofs.signatures.count_params.Given as goal

-- the parameters of those before
abbrev pub invariant-loop-child : goal.invariant-loop-child
invariant-loop-child g l = record {
  count : l.count ≡ length (flat_map as_names (phrases_of l.source.nodes.now (take l.child-index l.child-items)));
  cost : l.steps ≤ l.fn.steps + 2 * total (plain_at l.source.nodes.now) (take l.child-index l.child-items) + 2 * total (nested_at l.source.nodes.now) (take l.child-index l.child-items);
}
