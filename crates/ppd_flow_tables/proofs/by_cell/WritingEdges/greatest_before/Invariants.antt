use Rattle.std.proofs.Common.{◌≡◌, ◌≤◌, ◌+◌, ◌*◌, drop}
use Rattle.ppd_flow_tables.specs.LatestEdges.{latest_in}
use Rattle.ppd_flow_past.specs.Edges.Found.{IsEdgeIf}
use Rattle.ppd_flow_tables.proofs.Latest.{found_from}
use Rattle.ppd_flow_tables.proofs.by_cell.WritingEdges.greatest_before.Given as goal

abbrev pub invariant-loop-process : goal.invariant-loop-process
invariant-loop-process g l = record {
  is : found_from l.past l.edge l.cell l.process l.best (drop l.process l.past.graph.now.edges) ≡ latest_in l.past l.edge l.cell;
  there : IsEdgeIf l.past.graph.now l.best;
  spent : l.steps ≤ l.fn.steps + 65 * l.process;
}
