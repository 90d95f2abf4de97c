use Rattle.std.proofs.Common.{List, ◌≤◌, ◌+◌, ◌*◌}
use Rattle.ppd_parse.specs.declared.node.Node.{Node}
use Rattle.ppd_check_names.specs.Nodes.{phrases_below}
use Rattle.ppd_check_names.specs.Items.{numbered_item}
use Rattle.ppd_check_names.specs.Holding.{Declares}
use Rattle.ppd_check_names.proofs.Table.Listing.{first_numbered}
use Rattle.ppd_check_names.specs.Cost.{SameHeads, starts_left}
use Rattle.ppd_check_names.proofs.objects.declare_objects.Given as goal

-- those of the children before
abbrev pub invariant-loop-k : goal.invariant-loop-k
invariant-loop-k g l = record {
  declares : (ns : List Node) → Declares ns (first_numbered (numbered_item l.sort) l.k (phrases_below l.source.nodes.now l.id)) l.fn.globals l.globals l.fn.found l.found;
  cost : l.steps + starts_left l.globals ≤ l.fn.steps + starts_left l.fn.globals + 6 * l.k;
  heads : SameHeads l.fn.globals l.globals;
}
