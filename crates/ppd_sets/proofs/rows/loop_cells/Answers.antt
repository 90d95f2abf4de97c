use Rattle.ppd_ast.specs.declared.limits.TheConstants.{MOST_NESTING}
use Rattle.ppd_ast.specs.Order.{preorder}
use Rattle.std.specs.List.{flat_map}
use Rattle.std.proofs.Common.{false}
use Rattle.std.proofs.lemmas.Result.{IfOk-weaker}
use Rattle.ppd_sets.specs.Used.{reads_at, writes_at}
use Rattle.ppd_sets.proofs.Meeting.{sorted_is}
use Rattle.ppd_sets.proofs.rows.loop_cells.Goals as goal

pub returns-clause-used : goal.returns-clause-used
returns-clause-used c =
    let cells = flat_map (reads_at false c.args.program.now) (preorder MOST_NESTING c.args.program.now.stmts c.args.stmt) in
    IfOk-weaker c.row_of.result _ _ (λ row is. sorted_is c.loop_touched-touched.result.reads cells row.used is c.loop_touched-touched.ensures.reads) c.row_of.ensures.used

pub returns-clause-defined : goal.returns-clause-defined
returns-clause-defined c =
    let cells = flat_map (writes_at false c.args.program.now) (preorder MOST_NESTING c.args.program.now.stmts c.args.stmt) in
    IfOk-weaker c.row_of.result _ _ (λ row is. sorted_is c.loop_touched-touched.result.writes cells row.defined is c.loop_touched-touched.ensures.writes) c.row_of.ensures.defined
