use Rattle.ppd_rerun_guide.proofs.Ending.{chosen_can}
use Rattle.ppd_rerun_guide.specs.Guides.{guiding_of}
use Rattle.ppd_rerun_guide.proofs.guide.Guide.step.Goals as goal

pub step-requires-clause-enabled : goal.step-requires-clause-enabled
step-requires-clause-enabled c =
    chosen_can c.args.self.now.world.setting.program c.args.self.now.world.setting.plan (guiding_of c.args.self.now.world c.args.self.now.dues.items) c.args.p c.requires.may
