use Rattle.std.proofs.Common.{◌<◌, length, sym, ◌∙◌, arith}
use Rattle.ppd_rerun_guide.specs.Guided.{Guiding, may_step}
use Rattle.ppd_rerun_guide.specs.Guides.{guiding_of}
use Rattle.ppd_rerun_guide.proofs.Guides.{first_here, first_on}
use Rattle.ppd_rerun_guide.proofs.guide.Guide.chosen.Goals as goal

pub returns-then-may_step : goal.returns-then-may_step
returns-then-may_step c =
    let g : Guiding = guiding_of c.args.self.now.world c.args.self.now.dues.items in
    let lt : c.loop-p.p < length c.args.self.now.world.world.procs = omega arith in
    sym (c.loop-p.invariant ∙ first_here (may_step c.args.self.now.world.setting.program c.args.self.now.world.setting.plan g) c.loop-p.p (length c.args.self.now.world.world.procs) lt (sym c.may_step.ensures ∙ c.if-may_step.true))

pub loop-p-preserved : goal.loop-p-preserved
loop-p-preserved c =
    let g : Guiding = guiding_of c.args.self.now.world c.args.self.now.dues.items in
    let lt : c.loop-p.p < length c.args.self.now.world.world.procs = omega arith in
    c.loop-p.invariant ∙ first_on (may_step c.args.self.now.world.setting.program c.args.self.now.world.setting.plan g) c.loop-p.p (length c.args.self.now.world.world.procs) lt (sym c.may_step.ensures ∙ c.if-may_step.false)
