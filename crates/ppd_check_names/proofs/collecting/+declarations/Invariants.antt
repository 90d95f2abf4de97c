use Rattle.std.proofs.Common.{◌-◌, ◌*◌, ◌+◌, length, take, ◌≤◌}
use Rattle.std.specs.List.{flat_map}
use Rattle.ppd_check_names.specs.Reading.{as_items}
use Rattle.ppd_check_names.specs.Nodes.{phrases_of}
use Rattle.ppd_check_names.specs.Holding.{Declares}
use Rattle.ppd_check_names.specs.Cost.{total, plain_at, nested_at, starts_left, heads_nodes}
use Rattle.ppd_check_names.proofs.collecting.+declarations.Given as goal

-- twice the nodes from this one on
abbrev pub decreases-declare_node : goal.decreases-declare_node
decreases-declare_node g l = 2 * (length l.source.nodes.now - l.id) + 1

abbrev pub decreases-declare_below : goal.decreases-declare_below
decreases-declare_below g l = 2 * (length l.source.nodes.now - l.id)

-- the declarations of those before
abbrev pub invariant-declare_below-loop-child : goal.invariant-declare_below-loop-child
invariant-declare_below-loop-child g l = record {
  declares : Declares l.source.nodes.now (flat_map as_items (phrases_of l.source.nodes.now (take l.child-index l.child-items))) l.fn.globals l.globals l.fn.found l.found;
  cost : l.steps + starts_left l.globals ≤ l.fn.steps + starts_left l.fn.globals + 8 * total (plain_at l.source.nodes.now) (take l.child-index l.child-items) + 8 * total (nested_at l.source.nodes.now) (take l.child-index l.child-items) + 1;
  heads : heads_nodes l.source.nodes.now l.globals ≤ heads_nodes l.source.nodes.now l.fn.globals + total (plain_at l.source.nodes.now) (take l.child-index l.child-items) + total (nested_at l.source.nodes.now) (take l.child-index l.child-items);
}
