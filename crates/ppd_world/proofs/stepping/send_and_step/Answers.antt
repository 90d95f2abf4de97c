use Rattle.std.proofs.Common.{◌≡◌, ℤ, List, OnOk, ap, subst, ◌∙◌}
use Rattle.ppd_model.specs.Logs.{log_step}
use Rattle.ppd_model.specs.World.{World, change}
use Rattle.ppd_world.specs.Parts.{unsent}
use Rattle.ppd_world_steps.specs.Entries.{moment_with}
use Rattle.ppd_world.proofs.Steps.{if_refused, taken_back}
use Rattle.ppd_world.proofs.stepping.send_and_step.Goals as goal

pub returns-then-is_err-clause-same_store : goal.returns-then-is_err-clause-same_store
returns-then-is_err-clause-same_store c =
    let back : c.take_back.new.self ≡ c.args.store.now = c.take_back.ensures ∙ ap (λ (x : World). unsent x c.args.taken.need) c.in_ok-send.ensures.ok ∙ taken_back c.args.store.now c.args.taken.need in
    if_refused _ back

pub returns-else-is_err-clause-loggings : goal.returns-else-is_err-clause-loggings
returns-else-is_err-clause-loggings c =
    let shared : c.cells.result.now ≡ c.args.store.now.shared = c.cells.ensures ∙ ap (λ (x : World). x.shared) c.in_ok-send.ensures.ok in
    subst (λ (xs : List ℤ). OnOk c.step_at-stepped.result (c.step_at-stepped.new.loggings.items ≡ change (λ l. log_step c.args.code.now.program.now c.args.code.now.plan.now l (moment_with c.args.code.now.plan.now xs c.args.taken)) c.args.place c.args.loggings.now.items)) shared c.step_at-stepped.ensures.ok
