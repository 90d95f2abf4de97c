use Rattle.std.specs.Prelude.{get_or, []}
use Rattle.std.proofs.Common.{◌≤◌, arith, subst}
use Rattle.ppd_graph.specs.Ends.{first_edge}
use Rattle.ppd_flow_tables.proofs.Collected.{first_all, first_more, none_first}
use Rattle.ppd_flow_tables.proofs.OfPast.{no_edge}
use Rattle.ppd_flow_tables.proofs.spans.first_edges.Goals as goal

pub loop-interval-init : goal.loop-interval-init
loop-interval-init c = none_first (first_edge (get_or c.args.past.now.logs.now.lists c.args.process [])) c.new-first.result
    c.new-first.ensures

pub loop-interval-preserved : goal.loop-interval-preserved
loop-interval-preserved c =
    first_more (first_edge (get_or c.args.past.now.logs.now.lists c.args.process [])) c.loop-interval.interval
    c.loop-interval.first c.push.new.self c.first_edge.result
    c.loop-interval.invariant c.in_ok-push.ensures.ok c.first_edge.ensures

pub returns : goal.returns
returns c =
    first_all (first_edge (get_or c.args.past.now.logs.now.lists c.args.process [])) c.loop-interval.interval
    c.loop-interval.first c.loop-interval.invariant
    (λ k le. let over = subst (λ n. n ≤ c.loop-interval.interval) c.count-interval-end.ensures
    c.loop-interval-test.false in
    no_edge c.args.past.now c.args.process k c.requires.past.index_is (omega (arith, over, le)))
