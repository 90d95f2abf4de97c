use Rattle.std.proofs.lemmas.Result.{err_from_is_err_and}
use Rattle.ppd_flow_local.proofs.Joined.{else_origin, origin_failed, some_origin}
use Rattle.ppd_flow_local.proofs.search.Search.local_origin.Goals as goal
use Rattle.std.proofs.Common.{rules}

pub returns-in-None : goal.returns-in-None
returns-in-None g c =
    else_origin c.args.self.now _ _ c.args.steps.now c.local_in.new.steps c.local_above.new.steps c.local_above.result (rw c.in-None.is at c.in_ok-origin.ensures) c.local_above.ensures

pub returns-in-Some : goal.returns-in-Some
returns-in-Some g c =
    some_origin c.args.self.now _ _ c.in-Some.origin c.args.steps.now c.local_in.new.steps (rw c.in-Some.is at c.in_ok-origin.ensures)

pub returns-in_err-origin : goal.returns-in_err-origin
returns-in_err-origin g c =
    let e = err_from_is_err_and c.from_residual.result c.from_residual.ensures.1 in
    rw (e.1, e.2) (origin_failed c.args.self.now _ _ c.args.steps.now c.local_in.new.steps c.in_err-origin.field-0.0 c.in_err-origin.ensures)

pub local_above-requires : goal.local_above-requires
local_above-requires c = search rules depth 1 fits 30

pub local_in-requires : goal.local_in-requires
local_in-requires c = search rules depth 1 fits 30
