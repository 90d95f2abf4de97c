use Rattle.ppd_model.specs.Setting.{Setting, setting_of}
use Rattle.std.proofs.Common.{◌≡◌, ℕ, ◌-◌, List, length, map, ap, subst, ◌∙◌}
use Rattle.ppd_ast.specs.declared.plan.Plan.{Plan}
use Rattle.ppd_ast.specs.declared.program.Program.{Program}
use Rattle.ppd_sem.proofs.Validity.{valid-numbered}
use Rattle.ppd_model.specs.RecordedSets.{record_in}
use Rattle.ppd_model.specs.Synchronizations.{Sync}
use Rattle.ppd_rerun_guide.specs.Guided.{Guiding, guided_from}
use Rattle.ppd_rerun_guide.specs.Guides.{left_of}
use Rattle.ppd_rerun_ran.specs.Holding.{Holding}
use Rattle.ppd_rerun_ran.specs.Runs.{HasCome, begun_helds}
use Rattle.ppd_rerun_ran.specs.Seeing.{seen}
use Rattle.ppd_rerun_ran.proofs.Runs.{followed, follows, helds_begun}
use Rattle.ppd_rerun_ran.proofs.ran.guided_run.Goals as goal
use Rattle.ppd_rerun_guide.proofs.MostSteps.{most_steps}

pub begin-requires-clause-plan : goal.begin-requires-clause-plan
begin-requires-clause-plan c = valid-numbered c.args.setting.now.program.now c.args.setting.now.plan.now c.requires.program c.requires.plan

pub run-requires-clause-held : goal.run-requires-clause-held
run-requires-clause-held c =
    let program : Program = c.args.setting.now.program.now in
    let plan : Plan = c.args.setting.now.plan.now in
    let count : c.process_count.result ≡ length program.bodies - program.functions =
    c.process_count.ensures ∙ ap (λ (a : Setting). length a.program.bodies - a.program.functions) c.in_ok-guide.ensures.begun.is_setting in
    c.in_ok-held.ensures ∙ ap (λ (n : ℕ). begun_helds program plan n) count ∙ helds_begun (setting_of program plan c.args.budget)

pub returns : goal.returns
returns c =
    let program : Program = c.args.setting.now.program.now in
    let plan : Plan = c.args.setting.now.plan.now in
    let left : List (List Sync) = map left_of c.run.new.guide.dues.items in
    let held : List Holding = map seen c.run.new.held.items in
    let come : HasCome (setting_of program plan c.args.budget) (record_in c.args.logs.now) c.in_ok-schedule.schedule c.run.new.guide.world left held =
    subst (λ (syncs : List (List Sync)). HasCome (setting_of program plan c.args.budget) syncs c.in_ok-schedule.schedule c.run.new.guide.world left held)
    (ap (λ (g : Guiding). g.left) c.in_ok-guide.ensures.guiding) c.in_ok-schedule.ensures.come in
    record {
      schedule_is = c.in_ok-schedule.ensures.schedule ∙ ap (λ (g : Guiding). guided_from program plan (most_steps program c.args.budget) g) c.in_ok-guide.ensures.guiding;
      follows = (
        λ t. follows (setting_of program plan c.args.budget) c.args.logs.now c.in_ok-schedule.schedule c.run.new.guide.world left held come (c.has_record-follows.ensures.0 t),
        λ f. c.has_record-follows.ensures.1 (followed (setting_of program plan c.args.budget) c.args.logs.now c.in_ok-schedule.schedule c.run.new.guide.world left held come f),
      );
      held_is = come.held_is;
    }
