use Rattle.std.proofs.Common.{◌∙◌}
use Rattle.ppd_world.proofs.KeptNeeds.{need_is_kept}
use Rattle.ppd_world.proofs.Steps.{enabled_is}
use Rattle.ppd_world.proofs.world.World.enabled.Goals as goal

pub returns : goal.returns
returns c =
    let f = c.self.inside in
    rw (← c.self.view_is)
    (c.is_met.ensures ∙ enabled_is f.code.program.now f.code.plan.now f.store f.loggings.items c.args.p c.need_at.result (c.need_at.ensures ∙ need_is_kept f.code.program.now f.code.plan.now c.as_slice.result.now f.loggings.items c.args.p (c.as_slice.ensures.value ∙ c.self.invariant)))
