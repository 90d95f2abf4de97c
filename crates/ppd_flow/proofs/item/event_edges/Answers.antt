use Rattle.std.proofs.Common.{◌++◌, ◌∷◌, [], ◌∙◌, ap, Ok, Err}
use Rattle.std.specs.Prelude.{option_to_list}
use Rattle.std.proofs.lemmas.Result.{err_from_is_err_and}
use Rattle.ppd_model.specs.declared.flow.FlowEdge.{FlowEdge}
use Rattle.ppd_flow.proofs.Events.{control_failed, event_found, pair_failed, read_here, reads_failed}
use Rattle.ppd_flow.proofs.item.event_edges.Goals as goal

pub returns-in_err-edges : goal.returns-in_err-edges
returns-in_err-edges g c =
    let e = err_from_is_err_and c.from_residual.result c.from_residual.ensures.1 in
    rw (e.1, e.2) (reads_failed c.args.search.now c.args.place.now c.args.event.now c.args.steps.now c.read_edges.new.steps c.in_err-edges.field-0.0
    (read_here c.args.search.now c.args.place.now c.args.event.now c.as_slice.result.now c.args.steps.now c.read_edges.new.steps (Err c.in_err-edges.field-0.0) c.as_slice.ensures c.in_err-edges.ensures))

pub returns-in_err-pair : goal.returns-in_err-pair
returns-in_err-pair g c =
    let e = err_from_is_err_and c.from_residual-in_err-pair.result c.from_residual-in_err-pair.ensures.1 in
    rw (e.1, e.2) (pair_failed c.args.search.now c.args.place.now c.args.event.now c.in_ok-edges.edges c.args.steps.now c.read_edges.new.steps
    (read_here c.args.search.now c.args.place.now c.args.event.now c.as_slice.result.now c.args.steps.now c.read_edges.new.steps (Ok c.in_ok-edges.edges) c.as_slice.ensures c.in_ok-edges.ensures)
    c.pair_edge.new.steps c.in_err-pair.field-0.0 c.in_err-pair.ensures)

pub returns-in_err-from : goal.returns-in_err-from
returns-in_err-from g c =
    let e = err_from_is_err_and c.from_residual-in_err-from.result c.from_residual-in_err-from.ensures.1 in
    rw (e.1, e.2) (control_failed c.args.search.now c.args.place.now c.args.event.now c.in_ok-edges.edges c.args.steps.now c.read_edges.new.steps
    (read_here c.args.search.now c.args.place.now c.args.event.now c.as_slice.result.now c.args.steps.now c.read_edges.new.steps (Ok c.in_ok-edges.edges) c.as_slice.ensures c.in_ok-edges.ensures)
    c.in_ok-pair.pair c.pair_edge.new.steps c.control_origin.new.steps c.in_ok-pair.ensures c.in_err-from.field-0.0 c.in_err-from.ensures)

pub returns : goal.returns
returns g c =
    event_found c.args.search.now c.args.place.now c.args.event.now c.in_ok-edges.edges c.args.steps.now c.read_edges.new.steps
    (read_here c.args.search.now c.args.place.now c.args.event.now c.as_slice.result.now c.args.steps.now c.read_edges.new.steps (Ok c.in_ok-edges.edges) c.as_slice.ensures c.in_ok-edges.ensures)
    c.in_ok-pair.pair c.pair_edge.new.steps c.control_origin.new.steps c.in_ok-pair.ensures c.in_ok-from.from c.push_rest.new.edges c.in_ok-from.ensures
    (c.in_ok-push_rest.ensures ∙ ap (λ (z : FlowEdge). (c.in_ok-edges.edges ++ option_to_list c.in_ok-pair.pair) ++ z ∷ []) c.control_edge.ensures)
