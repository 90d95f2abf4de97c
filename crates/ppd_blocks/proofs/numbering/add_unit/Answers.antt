use Rattle.std.proofs.Common.{◌∙◌, sym, ap, subst, length}
use Rattle.ppd_sets.specs.WorkList.{AreRowsBelow}
use Rattle.ppd_blocks.proofs.Staying.{unit_rows_below, unit_rows_long}
use Rattle.ppd_blocks.proofs.numbering.add_unit.Goals as goal

pub cells_of-requires-clause-rows : goal.cells_of-requires-clause-rows
cells_of-requires-clause-rows c = subst AreRowsBelow (sym c.requires.rows) (unit_rows_below c.args.ways.now.program.now c.args.ways.now.loops.now c.requires.valid)

pub cells_of-requires-clause-long : goal.cells_of-requires-clause-long
cells_of-requires-clause-long c = ap length c.requires.rows ∙ unit_rows_long c.args.ways.now.program.now c.args.ways.now.loops.now
