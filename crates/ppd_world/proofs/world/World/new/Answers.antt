use Rattle.ppd_model.specs.Setting.{setting_of}
use Rattle.ppd_sem.proofs.Validity.{valid-numbered, valid-runnable}
use Rattle.std.proofs.Common.{refl}
use Rattle.ppd_world.proofs.Reached.{begun_is, begun_of, begun_reached, parts_ready}
use Rattle.ppd_world_steps.specs.Objects.{store}
use Rattle.ppd_world.proofs.world.World.new.Goals as goal

pub start_logs-requires-clause-program : goal.start_logs-requires-clause-program
start_logs-requires-clause-program c = valid-runnable c.args.program.now c.requires.program

pub start_logs-requires-clause-plan : goal.start_logs-requires-clause-plan
start_logs-requires-clause-plan c = valid-numbered c.args.program.now c.args.plan.now c.requires.program c.requires.plan

pub start_needs-requires-clause-program : goal.start_needs-requires-clause-program
start_needs-requires-clause-program c = valid-runnable c.args.program.now c.requires.program

pub start_needs-requires-clause-plan : goal.start_needs-requires-clause-plan
start_needs-requires-clause-plan c = valid-numbered c.args.program.now c.args.plan.now c.requires.program c.requires.plan

pub start_needs-requires-clause-loggings : goal.start_needs-requires-clause-loggings
start_needs-requires-clause-loggings c =
    (parts_ready (setting_of c.args.program.now c.args.plan.now c.args.budget) (store c.in_ok-copy_values.field-0 c.in_ok-start_sems.field-0.items c.in_ok-start_chans.field-0.items) c.in_ok-loggings.loggings.items c.as_slice.result.now _ refl c.as_slice.ensures.value
    (begun_reached (setting_of c.args.program.now c.args.plan.now c.args.budget) _ c.requires.program c.requires.plan c.requires.budget
    (begun_is (setting_of c.args.program.now c.args.plan.now c.args.budget) c.process_count-count.result c.in_ok-copy_values.field-0 c.in_ok-start_sems.field-0.items c.in_ok-start_chans.field-0.items c.in_ok-loggings.loggings.items
    c.process_count-count.ensures.is c.in_ok-copy_values.ensures c.in_ok-start_sems.ensures c.in_ok-start_chans.ensures c.in_ok-loggings.ensures))).small

pub returns-clause-world : goal.returns-clause-world
returns-clause-world c =
    begun_is (setting_of c.args.program.now c.args.plan.now c.args.budget) c.process_count-count.result c.in_ok-copy_values.field-0 c.in_ok-start_sems.field-0.items c.in_ok-start_chans.field-0.items c.in_ok-loggings.loggings.items
    c.process_count-count.ensures.is c.in_ok-copy_values.ensures c.in_ok-start_sems.ensures c.in_ok-start_chans.ensures c.in_ok-loggings.ensures

pub returns-clause-comes : goal.returns-clause-comes
returns-clause-comes c =
    begun_of (setting_of c.args.program.now c.args.plan.now c.args.budget) _
    (begun_is (setting_of c.args.program.now c.args.plan.now c.args.budget) c.process_count-count.result c.in_ok-copy_values.field-0 c.in_ok-start_sems.field-0.items c.in_ok-start_chans.field-0.items c.in_ok-loggings.loggings.items
    c.process_count-count.ensures.is c.in_ok-copy_values.ensures c.in_ok-start_sems.ensures c.in_ok-start_chans.ensures c.in_ok-loggings.ensures)

pub returns-clause-reached : goal.returns-clause-reached
returns-clause-reached c =
    begun_reached (setting_of c.args.program.now c.args.plan.now c.args.budget) _ c.requires.program c.requires.plan c.requires.budget
    (begun_is (setting_of c.args.program.now c.args.plan.now c.args.budget) c.process_count-count.result c.in_ok-copy_values.field-0 c.in_ok-start_sems.field-0.items c.in_ok-start_chans.field-0.items c.in_ok-loggings.loggings.items
    c.process_count-count.ensures.is c.in_ok-copy_values.ensures c.in_ok-start_sems.ensures c.in_ok-start_chans.ensures c.in_ok-loggings.ensures)
