use Rattle.std.proofs.Common.{◌∙◌, ap}
use Rattle.std.specs.Prelude.{◌-◌}
use Rattle.ppd_model.specs.declared.flow.Origin.TheVariants as origin
use Rattle.ppd_graph.specs.Looked.{known}
use Rattle.ppd_graph.specs.Seen.{outer_of, outer_place, place_of}
use Rattle.ppd_flow_local.specs.Searches.{seen}
use Rattle.ppd_flow_local.proofs.Rounds.{call_from, items_at, outer_fails}
use Rattle.ppd_flow_local.proofs.search.Search.call_of.Goals as goal

pub returns : goal.returns
returns g c =
    call_from c.args.self.now c.args.interval c.outer-outer.result c.place_of-place.result c.in_ok-items.items c.args.steps.now c.items.new.steps c.outer-outer.ensures
    (c.place_of-place.ensures.place ∙ ap (place_of c.args.interval) c.as_slice.ensures) c.in_ok-items.ensures
    c.item_before.result (c.item_before.ensures c.items.new.steps)

pub place_of-place-requires-clause-items : goal.place_of-place-requires-clause-items
place_of-place-requires-clause-items g c =
    items_at c.args.self.now c.outer-outer.result c.args.steps.now c.items.new.steps c.in_ok-items.items c.as_slice.result.now c.in_ok-items.ensures c.as_slice.ensures

pub returns-in_err-items : goal.returns-in_err-items
returns-in_err-items g c =
    let s = c.args.self.now in
    outer_fails s c.args.interval c.outer-outer.result c.args.steps.now c.items.new.steps
    (known (origin.Item s.process (outer_of (seen s) c.args.interval) (outer_place (seen s) c.args.interval - 1))) c.in_err-items.field-0.0 c.from_residual.result
    c.outer-outer.ensures c.in_err-items.ensures c.from_residual.ensures.1
