use Rattle.std.proofs.Common.{◌+◌, ◌*◌}
use Rattle.ppd_graph.specs.Walk.{back_from}
use Rattle.ppd_flow_shared.specs.Items.{seen_for}
use Rattle.ppd_flow_shared.proofs.Leads.{Leads}
use Rattle.ppd_flow_shared.proofs.Over.{over}
use Rattle.ppd_flow_shared.proofs.inside.+walk.Given as goal

abbrev pub decreases-over_items : goal.decreases-over_items
decreases-over_items g l = 3 * l.depth + 2

abbrev pub decreases-over_item : goal.decreases-over_item
decreases-over_item g l = 3 * l.depth + 1

abbrev pub decreases-over_interval : goal.decreases-over_interval
decreases-over_interval g l = 3 * l.depth

-- the items before this place are left
abbrev pub invariant-over_items-loop-at : goal.invariant-over_items-loop-at
invariant-over_items-loop-at g l =
    Leads l.search.past.now l.search.process
    (over (seen_for l.search) l.depth l.search.cell l.interval (back_from l.fn.place l.items)) l.fn.steps
    (over (seen_for l.search) l.depth l.search.cell l.interval (back_from l.left l.items)) l.steps

abbrev pub decreases-over_items-loop-at : goal.decreases-over_items-loop-at
decreases-over_items-loop-at g l = l.left
