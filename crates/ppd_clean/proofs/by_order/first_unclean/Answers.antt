use Rattle.std.proofs.Common.{◌∙◌, ◌+◌, sym, ap}
use Rattle.ppd_clean.specs.ByOrder.{first_unclean, has_race}
use Rattle.ppd_clean.proofs.Ranges.{find_here, find_next}
use Rattle.ppd_model.specs.HappenedBefore.{edge}
use Rattle.ppd_clean.proofs.by_order.first_unclean.Goals as goal

pub loop-edge-preserved : goal.loop-edge-preserved
loop-edge-preserved c =
    find_next (λ i. has_race c.args.past.now.graph.now c.args.firsts.now (edge c.args.process i)) c.loop-edge.edge (c.last_edge-last.result + 1) c.loop-edge-test.true
    (sym c.has_race.ensures ∙ c.if-has_race.false) ∙ c.loop-edge.invariant

pub returns-then-has_race : goal.returns-then-has_race
returns-then-has_race c =
    sym (find_here (λ i. has_race c.args.past.now.graph.now c.args.firsts.now (edge c.args.process i)) c.loop-edge.edge (c.last_edge-last.result + 1) c.loop-edge-test.true
    (sym c.has_race.ensures ∙ c.if-has_race.true)) ∙ c.loop-edge.invariant
    ∙ ap (first_unclean c.args.past.now.graph.now c.args.firsts.now c.args.process c.args.from) c.last_edge-last.ensures.is
