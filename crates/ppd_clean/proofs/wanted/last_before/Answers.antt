use Rattle.std.proofs.Common.{◌∙◌, ℕ, Option, ap}
use Rattle.ppd_clean.specs.ByOrder.{is_wanted, later}
use Rattle.ppd_clean.proofs.Ranges.{fold_next}
use Rattle.ppd_model.specs.HappenedBefore.{edge}
use Rattle.ppd_clean.proofs.wanted.last_before.Goals as goal

pub loop-edge-preserved : goal.loop-edge-preserved
loop-edge-preserved c =
    fold_next (λ (found : Option ℕ) i. later (is_wanted c.args.graph.now c.args.firsts.now c.args.top (edge c.args.process i)) i found) c.loop-edge.last c.later-last.result
    c.loop-edge.edge c.args.count c.loop-edge-test.true
    (c.later-last.ensures ∙ ap (λ b. later b c.loop-edge.edge c.loop-edge.last) c.is_wanted-wanted.ensures)
    ∙ c.loop-edge.invariant
