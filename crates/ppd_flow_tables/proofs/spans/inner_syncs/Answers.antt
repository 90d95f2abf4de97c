use Rattle.std.proofs.Common.{◌≤◌, arith, subst}
use Rattle.std.specs.Prelude.{slice_get, get_or, []}
use Rattle.ppd_model.specs.Extents.{extents}
use Rattle.ppd_graph.specs.Ends.{syncs_inside}
use Rattle.ppd_flow_tables.proofs.Collected.{first_all, first_more, none_first}
use Rattle.ppd_flow_tables.proofs.OfPast.{no_syncs}
use Rattle.ppd_flow_tables.proofs.spans.inner_syncs.Goals as goal

pub loop-interval-init : goal.loop-interval-init
loop-interval-init c = none_first (λ k. syncs_inside (get_or c.args.past.now.logs.now.lists c.args.process [])
    (slice_get (extents (get_or c.args.past.now.logs.now.lists c.args.process [])) k)) c.new-inside.result
    c.new-inside.ensures

pub loop-interval-preserved : goal.loop-interval-preserved
loop-interval-preserved c =
    first_more (λ k. syncs_inside (get_or c.args.past.now.logs.now.lists c.args.process [])
    (slice_get (extents (get_or c.args.past.now.logs.now.lists c.args.process [])) k)) c.loop-interval.interval
    c.loop-interval.inside c.push.new.self c.syncs_inside.result
    c.loop-interval.invariant c.in_ok-push.ensures.ok c.syncs_inside.ensures

pub returns : goal.returns
returns c =
    first_all (λ k. syncs_inside (get_or c.args.past.now.logs.now.lists c.args.process [])
    (slice_get (extents (get_or c.args.past.now.logs.now.lists c.args.process [])) k)) c.loop-interval.interval
    c.loop-interval.inside c.loop-interval.invariant
    (λ k le. let over = subst (λ n. n ≤ c.loop-interval.interval) c.count-interval-end.ensures
    c.loop-interval-test.false in
    no_syncs c.args.past.now c.args.process k c.requires.past.index_is (omega (arith, over, le)))
