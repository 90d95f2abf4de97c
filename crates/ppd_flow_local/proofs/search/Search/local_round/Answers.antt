use Rattle.std.proofs.Common.{◌∙◌, ap}
use Rattle.ppd_graph.specs.Locals.{local_outside, outer_frame}
use Rattle.ppd_graph.specs.Seen.{outer_of, outer_place, place_of}
use Rattle.ppd_flow_local.specs.Searches.{plan_in, program_in, seen}
use Rattle.ppd_flow_local.proofs.Rounds.{items_at, local_from, outer_fails, within_same}
use Rattle.ppd_flow_local.proofs.search.Search.local_round.Goals as goal

pub returns : goal.returns
returns g c =
    local_from c.args.self.now c.args.interval c.outer-outer.result c.place_of.result c.in_ok-items.items c.args.steps.now c.items.new.steps c.outer-outer.ensures
    (c.place_of.ensures.place ∙ ap (place_of c.args.interval) c.as_slice-2.ensures) c.in_ok-items.ensures
    c.args.cell c.local_at.new.steps c.local_at.result c.local_at.ensures

pub place_of-requires-clause-items : goal.place_of-requires-clause-items
place_of-requires-clause-items g c =
    items_at c.args.self.now c.outer-outer.result c.args.steps.now c.items.new.steps c.in_ok-items.items c.as_slice-2.result.now c.in_ok-items.ensures c.as_slice-2.ensures

pub local_at-requires-clause-place : goal.local_at-requires-clause-place
local_at-requires-clause-place g c = record {
  items_are = items_at c.args.self.now c.outer-outer.result c.args.steps.now c.items.new.steps c.in_ok-items.items c.as_slice.result.now c.in_ok-items.ensures c.as_slice.ensures;
  within = within_same c.place_of.result c.in_ok-items.items c.as_slice-2.result.now c.as_slice.result.now c.as_slice-2.ensures c.as_slice.ensures c.place_of.ensures.within;
}

pub returns-in_err-items : goal.returns-in_err-items
returns-in_err-items g c =
    let s = c.args.self.now in
    let k = c.args.interval in
    outer_fails s k c.outer-outer.result c.args.steps.now c.items.new.steps
    (local_outside (program_in s) (plan_in s) (seen s) s.process (outer_of (seen s) k) (outer_place (seen s) k) (outer_frame (program_in s) (plan_in s) (seen s) k) c.args.cell)
    c.in_err-items.field-0.0 c.from_residual.result
    c.outer-outer.ensures c.in_err-items.ensures c.from_residual.ensures.1
