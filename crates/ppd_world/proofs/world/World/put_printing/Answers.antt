use Rattle.std.proofs.lemmas.Grind.{elements}
use Rattle.ppd_model.specs.Setting.{setting_of}
use Rattle.std.specs.Prelude.{slice_get}
use Rattle.std.proofs.Common.{◌∙◌, ◌<◌, List, length, map, arith, refl, ap, sym, subst, rules}
use Rattle.ppd_model.specs.declared.state.Logging.{Logging}
use Rattle.std.proofs.lemmas.List.{length-map}
use Rattle.std.proofs.lemmas.Option.{slice_get_within}
use Rattle.ppd_world.specs.Parts.{need_of_logging}
use Rattle.ppd_world.specs.Plain.{ComesPrinting, gone_on_printing}
use Rattle.ppd_world.specs.Running.{IsReached, Running}
use Rattle.ppd_world.proofs.KeptNeeds.{kept_after}
use Rattle.ppd_world.proofs.Reached.{parts_ready}
use Rattle.ppd_world.proofs.Plain.{comes_printed, now_moved, own_printed, rests_fit, went, went_reached, went_taken}
use Rattle.ppd_world.proofs.world.World.put_printing.Goals as goal

pub go_on_printing-requires-clause-there : goal.go_on_printing-requires-clause-there
go_on_printing-requires-clause-there c =
    let f = c.self.inside in
    let comes = subst (λ (r : Running). ComesPrinting r c.args.p c.args.steps c.args.after) (sym c.self.view_is) c.requires.comes in
    let within : c.args.p < length (map (λ l. l.proc) f.loggings.items) = slice_get_within (map (λ l. l.proc) f.loggings.items) c.args.p comes.before comes.there in
    omega (arith, length-map f.loggings.items (λ l. l.proc))

pub go_on_printing-requires-clause-rest : goal.go_on_printing-requires-clause-rest
go_on_printing-requires-clause-rest c =
    let comes = subst (λ (r : Running). ComesPrinting r c.args.p c.args.steps c.args.after) (sym c.self.view_is) c.requires.comes in
    rests_fit _ c.args.p c.args.steps _ (subst (λ (r : Running). IsReached r) (sym c.self.view_is) c.requires.reached) (comes_printed _ _ _ _ comes)

pub returns-clause-steps : goal.returns-clause-steps
returns-clause-steps c =
    let reached = subst (λ (r : Running). IsReached r) (sym c.self.view_is) c.requires.reached in
    let comes = subst (λ (r : Running). ComesPrinting r c.args.p c.args.steps c.args.after) (sym c.self.view_is) c.requires.comes in
    rw (← c.self.view_is)
    (went _ _ c.args.p c.args.steps _ reached (comes_printed _ _ _ _ comes) (now_moved _ c.go_on_printing.new.loggings.items c.args.p c.args.steps _ refl (c.in_ok-go_on_printing.ensures.ok ∙ own_printed _ c.args.p c.args.steps c.args.after reached comes)))

pub returns-clause-comes : goal.returns-clause-comes
returns-clause-comes c =
    let reached = subst (λ (r : Running). IsReached r) (sym c.self.view_is) c.requires.reached in
    let comes = subst (λ (r : Running). ComesPrinting r c.args.p c.args.steps c.args.after) (sym c.self.view_is) c.requires.comes in
    rw (← c.self.view_is)
    (went_taken _ _ c.args.p c.args.steps _ reached (comes_printed _ _ _ _ comes) (now_moved _ c.go_on_printing.new.loggings.items c.args.p c.args.steps _ refl (c.in_ok-go_on_printing.ensures.ok ∙ own_printed _ c.args.p c.args.steps c.args.after reached comes)))

pub returns-clause-kept : goal.returns-clause-kept
returns-clause-kept c =
    let reached = subst (λ (r : Running). IsReached r) (sym c.self.view_is) c.requires.reached in
    let comes = subst (λ (r : Running). ComesPrinting r c.args.p c.args.steps c.args.after) (sym c.self.view_is) c.requires.comes in
    went_reached _ _ c.args.p c.args.steps _ reached (comes_printed _ _ _ _ comes) (now_moved _ c.go_on_printing.new.loggings.items c.args.p c.args.steps _ refl (c.in_ok-go_on_printing.ensures.ok ∙ own_printed _ c.args.p c.args.steps c.args.after reached comes))

pub look_at-need-requires-clause-program : goal.look_at-need-requires-clause-program
look_at-need-requires-clause-program c =
    let f = c.self.inside in
    let began = subst (λ (r : Running). IsReached r) (sym c.self.view_is) c.requires.reached in
    let comes = subst (λ (r : Running). ComesPrinting r c.args.p c.args.steps c.args.after) (sym c.self.view_is) c.requires.comes in
    let reached = went_reached _ _ c.args.p c.args.steps _ began (comes_printed _ _ _ _ comes) (now_moved _ c.go_on_printing.new.loggings.items c.args.p c.args.steps _ refl (c.in_ok-go_on_printing.ensures.ok ∙ own_printed _ c.args.p c.args.steps c.args.after began comes)) in
    (parts_ready (setting_of f.code.program.now f.code.plan.now f.budget) f.store c.go_on_printing.new.loggings.items c.as_slice.result.now _ refl c.as_slice.ensures.value reached).runnable

pub look_at-need-requires-clause-plan : goal.look_at-need-requires-clause-plan
look_at-need-requires-clause-plan c =
    let f = c.self.inside in
    let began = subst (λ (r : Running). IsReached r) (sym c.self.view_is) c.requires.reached in
    let comes = subst (λ (r : Running). ComesPrinting r c.args.p c.args.steps c.args.after) (sym c.self.view_is) c.requires.comes in
    let reached = went_reached _ _ c.args.p c.args.steps _ began (comes_printed _ _ _ _ comes) (now_moved _ c.go_on_printing.new.loggings.items c.args.p c.args.steps _ refl (c.in_ok-go_on_printing.ensures.ok ∙ own_printed _ c.args.p c.args.steps c.args.after began comes)) in
    (parts_ready (setting_of f.code.program.now f.code.plan.now f.budget) f.store c.go_on_printing.new.loggings.items c.as_slice.result.now _ refl c.as_slice.ensures.value reached).numbered

pub look_at-need-requires-clause-loggings : goal.look_at-need-requires-clause-loggings
look_at-need-requires-clause-loggings c =
    let f = c.self.inside in
    let began = subst (λ (r : Running). IsReached r) (sym c.self.view_is) c.requires.reached in
    let comes = subst (λ (r : Running). ComesPrinting r c.args.p c.args.steps c.args.after) (sym c.self.view_is) c.requires.comes in
    let reached = went_reached _ _ c.args.p c.args.steps _ began (comes_printed _ _ _ _ comes) (now_moved _ c.go_on_printing.new.loggings.items c.args.p c.args.steps _ refl (c.in_ok-go_on_printing.ensures.ok ∙ own_printed _ c.args.p c.args.steps c.args.after began comes)) in
    (parts_ready (setting_of f.code.program.now f.code.plan.now f.budget) f.store c.go_on_printing.new.loggings.items c.as_slice.result.now _ refl c.as_slice.ensures.value reached).small

pub invariant_of-self-2 : goal.invariant_of-self-2
invariant_of-self-2 c =
    let f = c.self.inside in
    kept_after f.code.program.now f.code.plan.now (gone_on_printing c.args.after c.args.steps) c.args.p f.loggings.items c.go_on_printing.new.loggings.items f.needs.items c.set_need.new.needs.items c.look_at-need.result
    c.self.invariant c.in_ok-go_on_printing.ensures.ok (c.look_at-need.ensures ∙ ap (λ (x : List Logging). need_of_logging f.code.program.now f.code.plan.now (slice_get x c.args.p)) c.as_slice.ensures.value) c.set_need.ensures

pub as_slice-requires : goal.as_slice-requires
as_slice-requires c = search rules depth 1 fits 30

pub branch-go_on_printing-requires : goal.branch-go_on_printing-requires
branch-go_on_printing-requires c = search rules depth 1 fits 30

pub from_residual-requires : goal.from_residual-requires
from_residual-requires c = search rules depth 1 fits 30

pub returns-clause-err : goal.returns-clause-err
returns-clause-err c = search rules depth 1 fits 30

pub returns-in_err-go_on_printing : goal.returns-in_err-go_on_printing
returns-in_err-go_on_printing c = grind (arith, elements) steps 250000

pub set_need-requires : goal.set_need-requires
set_need-requires c = search rules depth 1 fits 30
