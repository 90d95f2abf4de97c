use Rattle.std.proofs.Common.{◌++◌}
use Rattle.ppd_sets.proofs.Gaining.{gains_then, has_first}
use Rattle.ppd_sets.proofs.Meeting.{sorted_is}
use Rattle.ppd_blocks.proofs.blocks.either.Goals as goal

pub returns : goal.returns
returns c =
    sorted_is c.add_cells-2.new.set (c.args.left.now ++ c.args.right.now) c.in_ok-cells.cells c.in_ok-cells.ensures.whole
    (has_first c.new-set.result c.new-set.ensures (gains_then c.add_cells.ensures c.add_cells-2.ensures))
