use Rattle.std.proofs.Common.{refl, ap, ◌∙◌}
use Rattle.ppd_model.specs.declared.tracing.Taken.{Taken}
use Rattle.ppd_world_steps.specs.Entries.{moment_with}
use Rattle.ppd_model.specs.Logs.{log_step}
use Rattle.ppd_world.proofs.KeptNeeds.{kept_after, need_is_kept}
use Rattle.ppd_world.proofs.Steps.{next_is, receivable_after, step_is}
use Rattle.ppd_world.proofs.stepping.take_step.Goals as goal

pub finish-requires-clause-chans : goal.finish-requires-clause-chans
finish-requires-clause-chans c = receivable_after c.args.store.now c.send_and_step.new.store c.next_step-taken.result.need c.requires.ready.chans c.in_ok-need.ensures.store

pub send_and_step-requires-clause-need : goal.send_and_step-requires-clause-need
send_and_step-requires-clause-need c =
    ap (λ (t : Taken). t.need) c.next_step-taken.ensures
    ∙ c.need_at.ensures ∙ need_is_kept c.args.code.now.program.now c.args.code.now.plan.now c.as_slice.result.now c.args.loggings.now.items c.args.place (c.as_slice.ensures.value ∙ c.requires.needs)

pub returns-clause-world : goal.returns-clause-world
returns-clause-world c =
    let program = c.args.code.now.program.now in
    let plan = c.args.code.now.plan.now in
    let s = c.args.store.now in
    let ls = c.args.loggings.now.items in
    (step_is program plan s ls c.args.place c.next_step-taken.result c.send_and_step.new.store c.finish.new.self c.send_and_step.new.loggings.items
    (c.next_step-taken.ensures ∙ next_is program plan s ls c.args.place c.need_at.result _ _ (c.need_at.ensures ∙ need_is_kept program plan c.as_slice.result.now ls c.args.place (c.as_slice.ensures.value ∙ c.requires.needs)) refl refl)
    c.in_ok-need.ensures.store c.finish.ensures c.in_ok-need.ensures.loggings).world

pub returns-clause-loggings : goal.returns-clause-loggings
returns-clause-loggings c =
    let program = c.args.code.now.program.now in
    let plan = c.args.code.now.plan.now in
    let s = c.args.store.now in
    let ls = c.args.loggings.now.items in
    (step_is program plan s ls c.args.place c.next_step-taken.result c.send_and_step.new.store c.finish.new.self c.send_and_step.new.loggings.items
    (c.next_step-taken.ensures ∙ next_is program plan s ls c.args.place c.need_at.result _ _ (c.need_at.ensures ∙ need_is_kept program plan c.as_slice.result.now ls c.args.place (c.as_slice.ensures.value ∙ c.requires.needs)) refl refl)
    c.in_ok-need.ensures.store c.finish.ensures c.in_ok-need.ensures.loggings).logs

pub returns-clause-needs : goal.returns-clause-needs
returns-clause-needs c =
    let program = c.args.code.now.program.now in
    let plan = c.args.code.now.plan.now in
    kept_after program plan (λ l. log_step program plan l (moment_with plan c.args.store.now.shared c.next_step-taken.result)) c.args.place c.args.loggings.now.items c.send_and_step.new.loggings.items c.args.needs.now.items c.set_need.new.needs.items _
    c.requires.needs c.in_ok-need.ensures.loggings c.in_ok-need.ensures.need c.set_need.ensures
