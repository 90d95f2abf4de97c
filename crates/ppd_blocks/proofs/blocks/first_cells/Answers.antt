use Rattle.ppd_blocks.proofs.Filling.{one_more}
use Rattle.ppd_blocks.proofs.blocks.first_cells.Goals as goal

pub loop-cell-preserved : goal.loop-cell-preserved
loop-cell-preserved c = one_more c.loop-cell.cell c.loop-cell.cells c.push.new.self c.loop-cell.invariant c.in_ok-push.ensures.ok
