use Rattle.ppd_model.specs.Setting.{Setting, setting_of}
use Rattle.std.proofs.Common.{subst}
use Rattle.ppd_trace.specs.Traced.{IsTraceOf}
use Rattle.ppd_trace.proofs.Agreeing.{of_agreeing}
use Rattle.ppd_trace.proofs.whole.full_trace.Goals as goal

pub returns-clause-trace : goal.returns-clause-trace
returns-clause-trace c =
    subst (λ (s : Setting). IsTraceOf s c.args.schedule.now c.full_trace_from.result) c.new-setting.ensures c.full_trace_from.ensures

pub returns-clause-agreeing : goal.returns-clause-agreeing
returns-clause-agreeing c =
    of_agreeing (setting_of c.args.program.now c.args.plan.now c.args.budget) c.args.schedule.now c.full_trace_from.result (returns-clause-trace c)
