use Rattle.std.proofs.Common.{◌∙◌, sym}
use Rattle.ppd_sets.proofs.Meeting.{while_used, while_defined}
use Rattle.ppd_sets.proofs.rows.loop_row.Goals as goal

pub returns-then-is_while-clause-used : goal.returns-then-is_while-clause-used
returns-then-is_while-clause-used c = while_used c.args.program.now c.args.stmt c.in_ok-row.row.used (sym c.is_while.ensures ∙ c.if-is_while.true) c.in_ok-row.ensures.used

pub returns-then-is_while-clause-defined : goal.returns-then-is_while-clause-defined
returns-then-is_while-clause-defined c = while_defined c.args.program.now c.args.stmt c.in_ok-row.row.defined (sym c.is_while.ensures ∙ c.if-is_while.true) c.in_ok-row.ensures.defined
