use Rattle.std.proofs.Common.{ℕ, List, drop, Result}
use Rattle.ppd_model.specs.declared.flow.FlowEdge.{FlowEdge}
use Rattle.ppd_flow_tables.specs.FlowError.{FlowError}
use Rattle.ppd_flow_local.specs.Searches.{IsFound}
use Rattle.ppd_flow_local.proofs.Lefts.{all_edges, prefixed}
use Rattle.ppd_flow_local.proofs.search.Search.left_edges.Given as goal

abbrev pub invariant-loop-i : goal.invariant-loop-i
invariant-loop-i g l =
    (o : ℕ) (r : Result (List FlowEdge) FlowError)
    → IsFound l.self (all_edges l.self l.place.interval l.place.item l.frame (drop l.i l.cells) (drop l.i l.values)) l.steps o r
    → IsFound l.self (all_edges l.self l.place.interval l.place.item l.frame l.cells l.values) l.initial.steps o (prefixed l.edges r)
