use Rattle.ppd_model.specs.Setting.{setting_of}
use Rattle.std.proofs.Common.{refl}
use Rattle.ppd_world.specs.Parts.{world_of}
use Rattle.ppd_world.proofs.KeptNeeds.{kept_by_step}
use Rattle.ppd_world.proofs.Reached.{left_it, parts_ready, took}
use Rattle.ppd_world.proofs.world.World.take.Goals as goal

pub take_step-requires-clause-ready : goal.take_step-requires-clause-ready
take_step-requires-clause-ready c =
    let f = c.self.inside in
    parts_ready (setting_of f.code.program.now f.code.plan.now f.budget) f.store f.loggings.items _ _ c.self.view_is refl c.requires

pub returns-clause-ok : goal.returns-clause-ok
returns-clause-ok c =
    let f = c.self.inside in
    rw (← c.self.view_is)
    (took c.take_step.result f.code.program.now f.code.plan.now f.budget (world_of f.store f.loggings.items) (world_of c.take_step.new.store c.take_step.new.loggings.items) f.loggings.items c.take_step.new.loggings.items c.args.p c.take_step.ensures.world c.take_step.ensures.loggings)

pub returns-clause-err : goal.returns-clause-err
returns-clause-err c =
    let f = c.self.inside in
    let e = c.take_step.ensures in
    rw (← c.self.view_is)
    (left_it c.take_step.result f.code.program.now f.code.plan.now f.budget f.store c.take_step.new.store f.loggings.items c.take_step.new.loggings.items e.same_store e.same_loggings)

pub invariant_of-self : goal.invariant_of-self
invariant_of-self c =
    let f = c.self.inside in
    let e = c.take_step.ensures in
    kept_by_step f.code.program.now f.code.plan.now c.take_step.result f.loggings.items c.take_step.new.loggings.items f.needs.items c.take_step.new.needs.items c.self.invariant e.needs e.same_needs e.same_loggings
