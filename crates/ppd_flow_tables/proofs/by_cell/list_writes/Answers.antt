use Rattle.std.proofs.Common.{refl}
use Rattle.ppd_flow_tables.proofs.Growing.{write_listed, writes_listed}
use Rattle.ppd_flow_tables.proofs.by_cell.list_writes.Goals as goal

pub loop-cell-preserved : goal.loop-cell-preserved
loop-cell-preserved c =
    write_listed c.args.edge c.args.writes.now c.loop-cell.cell-index _ 0 c.args.lists.now.items c.loop-cell.lists.items c.list_edge.new.lists.items c.loop-cell-test.true refl c.loop-cell.invariant c.in_ok-list_edge.ensures

pub returns : goal.returns
returns c = writes_listed c.args.edge c.args.writes.now c.loop-cell.cell-index c.args.lists.now.items c.loop-cell.lists.items c.loop-cell-test.false c.loop-cell.invariant
