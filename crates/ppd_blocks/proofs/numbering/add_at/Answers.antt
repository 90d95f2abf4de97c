use Rattle.ppd_blocks.proofs.Staying.{after_below, exit_below}
use Rattle.ppd_blocks.proofs.numbering.add_at.Goals as goal

pub add_unit-requires-clause-begin : goal.add_unit-requires-clause-begin
add_unit-requires-clause-begin c = after_below c.args.ways.now.program.now c.args.ways.now.loops.now c.args.stmt c.requires.valid

pub add_unit-requires-3-clause-begin : goal.add_unit-requires-3-clause-begin
add_unit-requires-3-clause-begin c = exit_below c.args.ways.now.program.now c.args.ways.now.loops.now c.args.stmt c.requires.valid
