use Rattle.ppd_model.specs.Setting.{setting_of}
use Rattle.std.proofs.Common.{◌++◌, ◌∷◌, [], ap, sym, ◌∙◌, List}
use Rattle.ppd_model.specs.declared.state.Logging.{Logging}
use Rattle.ppd_world.specs.Starts.{begun_logs}
use Rattle.ppd_world.proofs.Begun.{begun_more}
use Rattle.ppd_world.proofs.starting.start_logs.Goals as goal

pub loop-process-preserved : goal.loop-process-preserved
loop-process-preserved c =
    c.in_ok-push_logging.ensures ∙ (ap (λ (ls : List Logging). ls ++ c.in_ok-logging.logging ∷ []) c.loop-process.invariant
    ∙ (ap (λ (l : Logging). begun_logs (setting_of c.args.program.now c.args.plan.now c.args.budget) c.loop-process.process ++ l ∷ []) c.in_ok-logging.ensures
    ∙ sym (begun_more (setting_of c.args.program.now c.args.plan.now c.args.budget) c.loop-process.process)))
