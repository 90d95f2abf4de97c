use Rattle.std.proofs.Common.{◌≡◌, ◌+◌, drop}
use Rattle.std.specs.Prelude.{sum_by, get_or, []}
use Rattle.ppd_graph.specs.Ends.{first_edge, syncs_of_item}
use Rattle.ppd_flow_past.proofs.places.edge_at.Given as goal

-- with the synchronizations of the items that are left it is the edge after all
abbrev pub invariant-loop-item : goal.invariant-loop-item
invariant-loop-item l =
    l.edge + sum_by (syncs_of_item (get_or l.past.logs.now.lists l.process [])) (drop l.item-index l.before)
    ≡ first_edge (get_or l.past.logs.now.lists l.process []) l.interval
    + sum_by (syncs_of_item (get_or l.past.logs.now.lists l.process [])) l.before
