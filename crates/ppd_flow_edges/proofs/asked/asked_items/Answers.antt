use Rattle.std.proofs.lemmas.Result.{err_from_is_err_and}
use Rattle.std.proofs.Common.{List, length, ◌≤◌, subst}
use Rattle.ppd_model.specs.declared.flow.Item.{Item}
use Rattle.ppd_flow_edges.proofs.Failing.{asked_failed, asked_none}
use Rattle.ppd_flow_edges.proofs.asked.asked_items.Goals as goal

pub returns-in_err-items : goal.returns-in_err-items
returns-in_err-items g c =
    let e = err_from_is_err_and c.from_residual.result c.from_residual.ensures.1 in
    rw (e.1, e.2) (asked_failed c.args.past.now c.args.process c.args.interval c.args.item c.args.steps.now c.interval_items.new.steps c.in_err-items.field-0.0 c.in_err-items.ensures)

pub returns-then-item-as_slice : goal.returns-then-item-as_slice
returns-then-item-as_slice g c =
    asked_none c.args.past.now c.args.process c.args.interval c.args.item c.args.steps.now c.interval_items.new.steps c.in_ok-items.items c.in_ok-items.ensures
    (subst (λ (ts : List Item). length ts ≤ c.args.item) c.as_slice.ensures c.if-item-as_slice.true)
