use Rattle.std.proofs.Common.{below_more}
use Rattle.test_valid.proofs.cells.is_each_held_once.Goals as goal

pub loop-cell-preserved : goal.loop-cell-preserved
loop-cell-preserved c = below_more _ _ c.loop-cell.invariant (cc)
