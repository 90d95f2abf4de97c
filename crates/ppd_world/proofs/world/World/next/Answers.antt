use Rattle.ppd_model.specs.Setting.{setting_of}
use Rattle.std.proofs.Common.{refl, ◌∙◌}
use Rattle.ppd_world.proofs.KeptNeeds.{need_is_kept}
use Rattle.ppd_world.proofs.Reached.{parts_ready}
use Rattle.ppd_world.proofs.Steps.{next_is}
use Rattle.ppd_world.proofs.world.World.next.Goals as goal

pub next_step-requires-clause-sems : goal.next_step-requires-clause-sems
next_step-requires-clause-sems c =
    let f = c.self.inside in
    (parts_ready (setting_of f.code.program.now f.code.plan.now f.budget) f.store f.loggings.items _ _ c.self.view_is refl c.requires).sems

pub next_step-requires-clause-chans : goal.next_step-requires-clause-chans
next_step-requires-clause-chans c =
    let f = c.self.inside in
    (parts_ready (setting_of f.code.program.now f.code.plan.now f.budget) f.store f.loggings.items _ _ c.self.view_is refl c.requires).chans

pub returns : goal.returns
returns c =
    let f = c.self.inside in
    rw (← c.self.view_is)
    (c.next_step.ensures ∙ next_is f.code.program.now f.code.plan.now f.store f.loggings.items c.args.p c.need_at.result _ _ (c.need_at.ensures ∙ need_is_kept f.code.program.now f.code.plan.now c.as_slice.result.now f.loggings.items c.args.p (c.as_slice.ensures.value ∙ c.self.invariant)) refl refl)
