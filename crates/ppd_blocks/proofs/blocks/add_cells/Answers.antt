use Rattle.std.proofs.Common.{rules, arith}
use Rattle.std.proofs.lemmas.Grind.{common_steps}
use Rattle.ppd_blocks.proofs.blocks.add_cells.Goals as goal

pub add_cell-requires : goal.add_cell-requires
add_cell-requires c = search rules depth 1 fits 30

pub from-requires : goal.from-requires
from-requires c = search rules depth 1 fits 30

pub loop-cell-init : goal.loop-cell-init
loop-cell-init c = search rules depth 1 fits 30

pub loop-cell-preserved : goal.loop-cell-preserved
loop-cell-preserved c = grind (arith, common_steps) steps 250000

pub loop-cell-smaller : goal.loop-cell-smaller
loop-cell-smaller c = search rules depth 1 fits 30

pub returns : goal.returns
returns c = grind (arith, common_steps) steps 250000
