use Rattle.std.proofs.Common.{take}
use Rattle.ppd_sets.specs.Gained.{Gains}
use Rattle.ppd_blocks.proofs.blocks.add_cells.Given as goal

abbrev pub invariant-loop-cell : goal.invariant-loop-cell
invariant-loop-cell l = Gains l.initial.set l.set (take l.cell-index l.cells)
