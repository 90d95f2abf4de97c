use Rattle.std.proofs.Common.{◌≡◌, None, drop}
use Rattle.ppd_flow_past.specs.Edges.Found.{IsEdgeIf, greatest_from}
use Rattle.ppd_graph.specs.Shared.{is_before_in}
use Rattle.ppd_flow_past.proofs.greatest.greatest.Given as goal

abbrev pub invariant-loop-p : goal.invariant-loop-p
invariant-loop-p l = record {
  is : greatest_from (is_before_in l.past.program.now l.past.logs.now) l.search.cell l.search.limit l.p l.best
      (drop l.p l.past.graph.now.edges)
      ≡ greatest_from (is_before_in l.past.program.now l.past.logs.now) l.search.cell l.search.limit 0 None
      l.past.graph.now.edges;
  there : IsEdgeIf l.past.graph.now l.best;
}
