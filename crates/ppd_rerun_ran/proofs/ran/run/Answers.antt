use Rattle.std.proofs.lemmas.Grind.{common_steps}
use Rattle.ppd_model.specs.Setting.{Setting, setting_of}
use Rattle.std.proofs.Common.{◌≡◌, ℕ, suc, ◌+◌, ◌-◌, ◌*◌, List, ◌++◌, Some, None, length, map, ap, ap₂, sym, subst, ◌∙◌, arith, rules}
use Rattle.std.proofs.lemmas.List.{append-nil}
use Rattle.ppd_ast.specs.declared.plan.Plan.{Plan}
use Rattle.ppd_ast.specs.declared.program.Program.{Program}
use Rattle.ppd_rerun_guide.specs.Guided.{Guiding, chosen, guide, guided_from}
use Rattle.ppd_rerun_guide.specs.Guides.{guiding_of, left_of}
use Rattle.ppd_rerun_ran.specs.Runs.{HasCome}
use Rattle.ppd_rerun_ran.specs.Seeing.{seen}
use Rattle.ppd_rerun_ran.proofs.Runs.{come_begun, come_on, rest_none, rest_on}
use Rattle.ppd_rerun_ran.proofs.ran.run.Goals as goal
use Rattle.ppd_rerun_guide.proofs.MostSteps.{most_steps}

pub loop-step-init : goal.loop-step-init
loop-step-init c = record {
  come = subst (λ (h : List ℕ). HasCome (setting_of c.args.setting.now.program.now c.args.setting.now.plan.now c.args.budget) (map left_of c.args.guide.now.dues.items) h
      c.args.guide.now.world (map left_of c.args.guide.now.dues.items) (map seen c.args.held.now.items)) (sym c.new-schedule.ensures)
      (come_begun (setting_of c.args.setting.now.program.now c.args.setting.now.plan.now c.args.budget) c.args.guide.now.world (map left_of c.args.guide.now.dues.items)
      (map seen c.args.held.now.items) c.requires.come c.requires.held);
  rest =
      let n : ℕ = most_steps c.args.setting.now.program.now c.args.budget in
      let all : n - 0 ≡ n = omega arith in
      ap₂ (λ (h : List ℕ) (k : ℕ). h ++ guided_from c.args.setting.now.program.now c.args.setting.now.plan.now k (guiding_of c.args.guide.now.world c.args.guide.now.dues.items)) c.new-schedule.ensures all;
}

pub loop-step-preserved : goal.loop-step-preserved
loop-step-preserved c =
    let program : Program = c.args.setting.now.program.now in
    let plan : Plan = c.args.setting.now.plan.now in
    let old : Guiding = guiding_of c.loop-step.guide.world c.loop-step.guide.dues.items in
    let now : Guiding = guiding_of c.take.new.guide.world c.take.new.guide.dues.items in
    let may : chosen c.loop-step.guide.world.setting.program c.loop-step.guide.world.setting.plan old ≡ Some c.in-Some.p = sym c.chosen.ensures ∙ c.in-Some.is in
    let run = c.loop-step.invariant.come.run in
    let same : c.process_count.result ≡ length program.bodies - program.functions =
    c.process_count.ensures ∙ ap (λ (a : Setting). length a.program.bodies - a.program.functions) c.requires.come.is_setting in
    let most : c.most_steps-step-end.result ≡ most_steps program c.args.budget =
    c.most_steps-step-end.ensures ∙ ap (λ (k : ℕ). k * (c.args.budget + 1)) same in
    let more : most_steps program c.args.budget - c.loop-step._step ≡ suc (most_steps program c.args.budget - (c.loop-step._step + 1)) =
    subst (λ (k : ℕ). k - c.loop-step._step ≡ suc (k - (c.loop-step._step + 1))) most (omega arith) in
    record {
      come = subst (λ (h : List ℕ). HasCome (setting_of program plan c.args.budget) (map left_of c.args.guide.now.dues.items) h
          c.take.new.guide.world (map left_of c.take.new.guide.dues.items) (map seen c.take.new.held.items)) (sym c.in_ok-take-in-Some.ensures.schedule)
          (come_on (setting_of program plan c.args.budget) (map left_of c.args.guide.now.dues.items) c.loop-step.schedule c.in-Some.p c.loop-step.guide.world c.take.new.guide.world
          (map left_of c.loop-step.guide.dues.items) (map left_of c.take.new.guide.dues.items) (map seen c.loop-step.held.items) (map seen c.take.new.held.items)
          c.loop-step.invariant.come may c.in_ok-take-in-Some.ensures.guided c.in_ok-take-in-Some.ensures.comes c.in_ok-take-in-Some.ensures.kept c.in_ok-take-in-Some.ensures.held);
      rest = rest_on program plan (most_steps program c.args.budget - c.loop-step._step) (most_steps program c.args.budget - (c.loop-step._step + 1)) old now c.in-Some.p
          c.loop-step.schedule c.take.new.schedule _ more
          (ap (λ (a : Setting). chosen a.program a.plan old) (sym run.is_setting) ∙ may)
          (c.in_ok-take-in-Some.ensures.guided ∙ ap (λ (a : Setting). guide a.program a.plan old c.in-Some.p) run.is_setting)
          c.in_ok-take-in-Some.ensures.schedule c.loop-step.invariant.rest;
    }

pub returns-in-None-clause-schedule : goal.returns-in-None-clause-schedule
returns-in-None-clause-schedule c =
    let program : Program = c.args.setting.now.program.now in
    let plan : Plan = c.args.setting.now.plan.now in
    let old : Guiding = guiding_of c.loop-step.guide.world c.loop-step.guide.dues.items in
    let run = c.loop-step.invariant.come.run in
    let may : chosen program plan old ≡ None = ap (λ (a : Setting). chosen a.program a.plan old) (sym run.is_setting) ∙ (sym c.chosen.ensures ∙ c.in-None.is) in
    sym (append-nil c.loop-step.schedule)
    ∙ ap (λ (xs : List ℕ). c.loop-step.schedule ++ xs) (sym (rest_none program plan (most_steps program c.args.budget - c.loop-step._step) old may))
    ∙ c.loop-step.invariant.rest

pub chosen-requires : goal.chosen-requires
chosen-requires c = search rules depth 1 fits 30

pub loop-step-smaller : goal.loop-step-smaller
loop-step-smaller c = search rules depth 1 fits 30

pub most_steps-step-end-requires : goal.most_steps-step-end-requires
most_steps-step-end-requires c = search rules depth 1 fits 30

pub new-schedule-requires : goal.new-schedule-requires
new-schedule-requires c = search rules depth 1 fits 30

pub process_count-requires : goal.process_count-requires
process_count-requires c = search rules depth 1 fits 30

pub returns-clause-come : goal.returns-clause-come
returns-clause-come c = search rules depth 1 fits 30

pub returns-in-None-clause-come : goal.returns-in-None-clause-come
returns-in-None-clause-come c = search rules depth 1 fits 30

pub returns-in_err-take-in-Some : goal.returns-in_err-take-in-Some
returns-in_err-take-in-Some c = grind (arith, common_steps) steps 250000

pub take-requires-clause-may : goal.take-requires-clause-may
take-requires-clause-may c = search rules depth 1 fits 30

pub take-requires-clause-plan : goal.take-requires-clause-plan
take-requires-clause-plan c = search rules depth 1 fits 30

pub take-requires-clause-program : goal.take-requires-clause-program
take-requires-clause-program c = search rules depth 1 fits 30

pub take-requires-clause-reached : goal.take-requires-clause-reached
take-requires-clause-reached c = search rules depth 1 fits 30
