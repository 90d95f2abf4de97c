use Rattle.ppd_model.specs.Setting.{setting_of}
use Rattle.std.proofs.Common.{◌≡◌, ◌++◌, ◌-◌, map}
use Rattle.ppd_rerun_guide.specs.Guided.{guided_from}
use Rattle.ppd_rerun_guide.specs.Guides.{guiding_of, left_of}
use Rattle.ppd_rerun_ran.specs.Runs.{HasCome}
use Rattle.ppd_rerun_ran.specs.Seeing.{seen}
use Rattle.ppd_rerun_ran.proofs.ran.run.Given as goal
use Rattle.ppd_rerun_guide.proofs.MostSteps.{most_steps}

abbrev pub invariant-loop-step : goal.invariant-loop-step
invariant-loop-step l = record {
  come : HasCome (setting_of l.setting.program.now l.setting.plan.now l.budget) (map left_of l.initial.guide.dues.items) l.schedule l.guide.world
      (map left_of l.guide.dues.items) (map seen l.held.items);
  rest : l.schedule ++ guided_from l.setting.program.now l.setting.plan.now (most_steps l.setting.program.now l.budget - l._step) (guiding_of l.guide.world l.guide.dues.items)
      ≡ guided_from l.setting.program.now l.setting.plan.now (most_steps l.setting.program.now l.budget) (guiding_of l.initial.guide.world l.initial.guide.dues.items);
}
