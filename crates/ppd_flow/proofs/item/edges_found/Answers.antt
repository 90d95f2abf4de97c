use Rattle.std.proofs.lemmas.Result.{err_from_is_err_and}
use Rattle.ppd_flow.proofs.ItemEdges.{an_item, asked_fails, asked_there}
use Rattle.ppd_flow.proofs.item.edges_found.Goals as goal

pub returns-in_err-items : goal.returns-in_err-items
returns-in_err-items g c =
    let e = err_from_is_err_and c.from_residual.result c.from_residual.ensures.1 in
    rw (e.1, e.2) (asked_fails c.args.past.now c.args.at.process c.args.at.interval c.args.at.item c.args.steps.now c.asked_items.new.steps c.in_err-items.field-0.0 c.in_err-items.ensures)

pub returns : goal.returns
returns g c =
    an_item c.args.past.now c.args.at.process c.args.at.interval c.args.at.item c.args.steps.now c.asked_items.new.steps c.in_ok-items.items c.in_ok-items.ensures.0
    c.index-items-at.result c.item_edges.new.steps c.item_edges.result
    (asked_there c.as_slice-items.result.now c.in_ok-items.items c.args.at.item c.index-items-at.result c.as_slice-items.ensures c.in_ok-items.ensures.1 c.index-items-at.is)
    c.item_edges.ensures
