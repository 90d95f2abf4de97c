use Rattle.std.proofs.Common.{◌∙◌}
use Rattle.ppd_blocks.proofs.Filling.{used_row, used_none}
use Rattle.ppd_blocks.proofs.blocks.loop_used.Goals as goal

pub returns-then-has_stmt : goal.returns-then-has_stmt
returns-then-has_stmt c = c.loop_used.ensures ∙ used_row c.args.program.now c.args.sets.now c.args.stmt c.requires (c.has_stmt.ensures.0 c.if-has_stmt.true).0

pub returns-else-has_stmt : goal.returns-else-has_stmt
returns-else-has_stmt c = used_none c.args.program.now c.args.sets.now c.args.stmt c.has_stmt.result c.requires c.has_stmt.ensures c.if-has_stmt.false
