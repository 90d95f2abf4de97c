use Rattle.std.specs.Prelude.{get_or, []}
use Rattle.ppd_graph.specs.Ends.{first_edge}
use Rattle.ppd_flow_tables.proofs.Collected.{AreFirst}
use Rattle.ppd_flow_tables.proofs.spans.first_edges.Given as goal

abbrev pub invariant-loop-interval : goal.invariant-loop-interval
invariant-loop-interval l = AreFirst (first_edge (get_or l.past.logs.now.lists l.process [])) l.interval l.first
