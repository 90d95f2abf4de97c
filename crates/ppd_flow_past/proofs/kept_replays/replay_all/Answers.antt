use Rattle.std.proofs.Common.{◌∙◌, ◌+◌, [], ◌∷◌, ap, arith, length, length-append, subst, sym}
use Rattle.ppd_flow_past.specs.ByReplays.{AreReplayed}
use Rattle.ppd_flow_past.specs.Keeping.{AreFirstItems}
use Rattle.ppd_flow_past.specs.SeenBy.{steps_in}
use Rattle.ppd_flow_past.proofs.Keeping.{first_more, sum_next}
use Rattle.ppd_flow_past.proofs.kept_replays.replay_all.Goals as goal

pub loop-interval-preserved : goal.loop-interval-preserved
loop-interval-preserved g c =
    let past = c.args.past.now in
    let rose = c.in-Ok.ensures.cost in
    let before = c.loop-interval.invariant.cost in
    let next = sum_next (steps_in past c.args.process) c.loop-interval.interval in
    record {
      first = subst (AreFirstItems past c.args.process) (sym c.in_ok-push-in-Ok.ensures.ok)
          (first_more past c.args.process c.loop-interval.rows c.in-Ok.items c.loop-interval.invariant.first
          (subst (λ n. AreReplayed past c.args.process n c.in-Ok.items) (sym c.loop-interval.invariant.count)
          c.in-Ok.ensures.is));
      count = ap length c.in_ok-push-in-Ok.ensures.ok ∙ length-append c.loop-interval.rows (c.in-Ok.items ∷ [])
          ∙ ap (λ n. n + 1) c.loop-interval.invariant.count;
      cost = omega (arith, rose, before, next);
    }
