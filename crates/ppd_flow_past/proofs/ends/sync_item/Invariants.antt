use Rattle.std.specs.Prelude.{get_or, []}
use Rattle.std.proofs.Common.{◌≡◌, ◌+◌, drop}
use Rattle.ppd_graph.specs.Ends.{first_edge, sync_item}
use Rattle.ppd_flow_past.proofs.ends.sync_item.Given as goal

abbrev pub invariant-loop-place : goal.invariant-loop-place
invariant-loop-place l =
    l.place + sync_item (get_or l.past.logs.now.lists l.process []) l.edge l.current (drop l.place l.items)
    ≡ sync_item (get_or l.past.logs.now.lists l.process []) l.edge (first_edge
    (get_or l.past.logs.now.lists l.process []) l.interval) l.items
