use Rattle.std.proofs.Common.{◌≡◌, drop}
use Rattle.ppd_flow_past.specs.Edges.Found.{IsEdgeIf, greatest_in}
use Rattle.ppd_graph.specs.Shared.{is_before_in}
use Rattle.ppd_flow_past.proofs.greatest.greatest_of.Given as goal

abbrev pub invariant-loop-i : goal.invariant-loop-i
invariant-loop-i l = record {
  is : greatest_in (is_before_in l.past.program.now l.past.logs.now) l.search.cell l.search.limit l.process l.i
      l.best (drop l.i l.sets)
      ≡ greatest_in (is_before_in l.past.program.now l.past.logs.now) l.search.cell l.search.limit l.process 0
      l.fn.found l.sets;
  there : IsEdgeIf l.past.graph.now l.best;
}
