use Rattle.std.proofs.Common.{◌∙◌, sym}
use Rattle.ppd_deps.proofs.Tabled.{control_other, control_while, stmt_got}
use Rattle.ppd_deps.proofs.adding.add_control_at.Goals as goal

pub returns-then-is_while : goal.returns-then-is_while
returns-then-is_while c =
    c.in_ok-push-2.ensures.ok
    ∙ control_while c.args.program.now c.args.stmt c.index-as_slice-stmt.result c.args.row.now c.push.new.self c.outer_edge.result
    (stmt_got c.args.program.now c.as_slice.result.now c.args.stmt c.index-as_slice-stmt.result c.as_slice.ensures c.requires c.index-as_slice-stmt.is) c.outer_edge.ensures c.in_ok-push.ensures.ok (sym c.is_while.ensures ∙ c.if-is_while.true)

pub returns : goal.returns
returns c =
    control_other c.args.program.now c.args.stmt c.index-as_slice-stmt.result c.args.row.now c.push.new.self c.outer_edge.result
    (stmt_got c.args.program.now c.as_slice.result.now c.args.stmt c.index-as_slice-stmt.result c.as_slice.ensures c.requires c.index-as_slice-stmt.is) c.outer_edge.ensures c.in_ok-push.ensures.ok (sym c.is_while.ensures ∙ c.if-is_while.false)
