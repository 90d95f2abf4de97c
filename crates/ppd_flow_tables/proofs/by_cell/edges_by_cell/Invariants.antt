use Rattle.ppd_flow_tables.proofs.Growing.{AreOfEdges}
use Rattle.ppd_flow_tables.proofs.by_cell.edges_by_cell.Given as goal

abbrev pub invariant-loop-edge : goal.invariant-loop-edge
invariant-loop-edge l = AreOfEdges l.sets l.edge l.lists.items
