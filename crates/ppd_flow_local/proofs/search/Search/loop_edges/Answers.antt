use Rattle.std.proofs.Common.{Err, Ok}
use Rattle.std.proofs.lemmas.Result.{err_from_is_err_and}
use Rattle.ppd_ast.specs.declared.plan.BlockKind.TheVariants as block
use Rattle.ppd_graph.specs.Own.{edges_of_nested}
use Rattle.ppd_flow_local.specs.Searches.{plan_in, program_in, seen}
use Rattle.ppd_flow_local.proofs.Joined.{no_memory}
use Rattle.ppd_flow_local.proofs.Nested.{loop_failed, loop_found}
use Rattle.ppd_flow_local.proofs.search.Search.loop_edges.Goals as goal

pub returns-in_err-frame : goal.returns-in_err-frame
returns-in_err-frame g c = λ m.
    let s = c.args.self.now in
    no_memory s (edges_of_nested (program_in s) (plan_in s) (seen s) s.process c.args.place.now.interval c.args.place.now.item m c.args.block c.args.values.now (block.Loop c.args.stmt))
    c.args.steps.now c.args.steps.now c.from_residual.result c.from_residual.ensures.1

pub returns-in_err-edges : goal.returns-in_err-edges
returns-in_err-edges g c = λ m.
    let e = err_from_is_err_and c.from_residual-in_err-edges.result c.from_residual-in_err-edges.ensures.1 in
    rw (e.1, e.2) (loop_failed c.args.self.now c.args.place.now.interval c.args.place.now.item c.args.stmt c.args.block c.in_ok-frame.frame c.postlog_cells-cells.result.now c.args.values.now c.in_ok-frame.ensures c.postlog_cells-cells.ensures
    m c.args.steps.now c.left_edges.new.steps c.in_err-edges.field-0.0 c.in_err-edges.ensures)

pub returns : goal.returns
returns g c = λ m.
    loop_found c.args.self.now c.args.place.now.interval c.args.place.now.item c.args.stmt c.args.block c.in_ok-frame.frame c.postlog_cells-cells.result.now c.args.values.now c.in_ok-frame.ensures c.postlog_cells-cells.ensures
    m c.args.steps.now c.left_edges.new.steps c.push_control.new.steps c.in_ok-edges.edges (Ok c.push_control.new.edges) c.in_ok-edges.ensures c.in_ok-push_control.ensures

pub returns-in_err-push_control : goal.returns-in_err-push_control
returns-in_err-push_control g c = λ m.
    let e = err_from_is_err_and c.from_residual-in_err-push_control.result c.from_residual-in_err-push_control.ensures.1 in
    rw (e.1, e.2) (loop_found c.args.self.now c.args.place.now.interval c.args.place.now.item c.args.stmt c.args.block c.in_ok-frame.frame c.postlog_cells-cells.result.now c.args.values.now c.in_ok-frame.ensures c.postlog_cells-cells.ensures
    m c.args.steps.now c.left_edges.new.steps c.push_control.new.steps c.in_ok-edges.edges (Err c.in_err-push_control.field-0.0) c.in_ok-edges.ensures c.in_err-push_control.ensures)
