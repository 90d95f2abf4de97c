use Rattle.ppd_flow_tables.proofs.Growing.{AreListed}
use Rattle.ppd_flow_tables.proofs.by_cell.list_writes.Given as goal

abbrev pub invariant-loop-cell : goal.invariant-loop-cell
invariant-loop-cell l = AreListed l.edge l.writes l.cell-index l.fn.lists.items l.lists.items
