use Rattle.ppd_flow_local.proofs.Rounds.{found_among, items_at, replay_fails}
use Rattle.ppd_flow_local.proofs.search.Search.in_loop.Goals as goal

pub returns : goal.returns
returns g c =
    found_among c.args.self.now c.args.interval c.args.steps.now c.items.new.steps c.written_among.new.steps c.in_ok-items.items _ c.written_among.result
    c.in_ok-items.ensures c.written_among.ensures

pub written_among-requires-clause-items : goal.written_among-requires-clause-items
written_among-requires-clause-items g c =
    items_at c.args.self.now c.args.interval c.args.steps.now c.items.new.steps c.in_ok-items.items c.as_slice.result.now c.in_ok-items.ensures c.as_slice.ensures

pub returns-in_err-items : goal.returns-in_err-items
returns-in_err-items g c =
    replay_fails c.args.self.now c.args.interval c.args.steps.now c.items.new.steps _ c.in_err-items.field-0.0 c.from_residual.result
    c.in_err-items.ensures c.from_residual.ensures.1
