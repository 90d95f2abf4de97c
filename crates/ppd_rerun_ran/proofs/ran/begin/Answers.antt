use Rattle.ppd_model.specs.Setting.{setting_of}
use Rattle.ppd_rerun_ran.proofs.Runs.{helds_more}
use Rattle.ppd_rerun_ran.proofs.ran.begin.Goals as goal

pub loop-process-preserved : goal.loop-process-preserved
loop-process-preserved c =
    helds_more (setting_of c.args.setting.now.program.now c.args.setting.now.plan.now 0) c.loop-process.process c.loop-process.held.items c.push.new.self.items c.in_ok-one.one
    c.in_ok-push.ensures.items c.in_ok-one.ensures c.loop-process.invariant
