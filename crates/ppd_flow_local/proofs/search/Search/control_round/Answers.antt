use Rattle.std.proofs.Common.{◌∙◌, ap}
use Rattle.ppd_graph.specs.Control.{control_outside}
use Rattle.ppd_graph.specs.Seen.{outer_of, outer_place, place_of}
use Rattle.ppd_flow_local.specs.Searches.{plan_in, program_in, seen}
use Rattle.ppd_flow_local.proofs.Rounds.{control_from, items_at, outer_fails, within_same}
use Rattle.ppd_flow_local.proofs.search.Search.control_round.Goals as goal

pub returns : goal.returns
returns g c =
    control_from c.args.self.now c.args.interval c.outer-outer.result c.place_of.result c.in_ok-items.items c.args.steps.now c.items.new.steps c.outer-outer.ensures
    (c.place_of.ensures.place ∙ ap (place_of c.args.interval) c.as_slice-2.ensures) c.in_ok-items.ensures
    c.args.stmt c.control_outside.new.steps c.control_outside.result c.control_outside.ensures

pub place_of-requires-clause-items : goal.place_of-requires-clause-items
place_of-requires-clause-items g c =
    items_at c.args.self.now c.outer-outer.result c.args.steps.now c.items.new.steps c.in_ok-items.items c.as_slice-2.result.now c.in_ok-items.ensures c.as_slice-2.ensures

pub control_outside-requires-clause-place : goal.control_outside-requires-clause-place
control_outside-requires-clause-place g c = record {
  items_are = items_at c.args.self.now c.outer-outer.result c.args.steps.now c.items.new.steps c.in_ok-items.items c.as_slice.result.now c.in_ok-items.ensures c.as_slice.ensures;
  within = within_same c.place_of.result c.in_ok-items.items c.as_slice-2.result.now c.as_slice.result.now c.as_slice-2.ensures c.as_slice.ensures c.place_of.ensures.within;
}

pub returns-in_err-items : goal.returns-in_err-items
returns-in_err-items g c =
    let s = c.args.self.now in
    let k = c.args.interval in
    outer_fails s k c.outer-outer.result c.args.steps.now c.items.new.steps
    (control_outside (program_in s) (plan_in s) (seen s) s.process (outer_of (seen s) k) (outer_place (seen s) k) c.args.stmt) c.in_err-items.field-0.0 c.from_residual.result
    c.outer-outer.ensures c.in_err-items.ensures c.from_residual.ensures.1
