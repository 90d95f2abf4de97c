use Rattle.ppd_flow_tables.proofs.Growing.{AreRows}
use Rattle.ppd_flow_tables.proofs.by_cell.writing_edges.Given as goal

abbrev pub invariant-loop-process : goal.invariant-loop-process
invariant-loop-process l = AreRows l.sets l.process l.rows
