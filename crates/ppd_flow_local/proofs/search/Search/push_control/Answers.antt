use Rattle.std.proofs.Common.{◌∙◌, ◌∷◌, ◌++◌, [], ap}
use Rattle.std.proofs.lemmas.Result.{err_from_is_err_and}
use Rattle.ppd_model.specs.declared.flow.EdgeKind.TheVariants.{Control}
use Rattle.ppd_model.specs.declared.flow.FlowEdge.{FlowEdge}
use Rattle.ppd_model.specs.FlowbackEdges.{bare_edge}
use Rattle.ppd_graph.specs.Control.{control_origin}
use Rattle.ppd_graph.specs.Looked.{look_map}
use Rattle.ppd_flow_local.specs.Searches.{plan_in, program_in, seen}
use Rattle.ppd_flow_local.proofs.Joined.{failed_alone, no_memory_with}
use Rattle.ppd_flow_local.proofs.Nested.{control_added}
use Rattle.ppd_flow_local.proofs.search.Search.push_control.Goals as goal

pub returns : goal.returns
returns g c =
    let s = c.args.self.now in
    control_added s (control_origin (program_in s) (plan_in s) (seen s) s.process c.args.place.now.interval c.args.place.now.item c.args.stmt)
    c.args.edges.now c.push.new.self c.in_ok-from.from c.args.steps.now c.control_origin.new.steps c.in_ok-from.ensures
    (c.in_ok-push.ensures.ok ∙ ap (λ (e : FlowEdge). c.args.edges.now ++ e ∷ []) c.control_edge.ensures)

pub returns-in_err-from : goal.returns-in_err-from
returns-in_err-from g c =
    let s = c.args.self.now in
    let control = control_origin (program_in s) (plan_in s) (seen s) s.process c.args.place.now.interval c.args.place.now.item c.args.stmt in
    let e = err_from_is_err_and c.from_residual.result c.from_residual.ensures.1 in
    rw (e.1, e.2) (failed_alone s control (c.args.edges.now ++ bare_edge Control control.found ∷ []) c.args.steps.now c.control_origin.new.steps
    c.in_err-from.field-0.0 c.in_err-from.ensures)

pub returns-in_err-push : goal.returns-in_err-push
returns-in_err-push g c =
    let s = c.args.self.now in
    let control = control_origin (program_in s) (plan_in s) (seen s) s.process c.args.place.now.interval c.args.place.now.item c.args.stmt in
    no_memory_with s (look_map (λ from. c.args.edges.now ++ bare_edge Control from ∷ []) control) c.push.new.self c.args.steps.now
    c.control_origin.new.steps c.from_residual-in_err-push.result c.from_residual-in_err-push.ensures.1
