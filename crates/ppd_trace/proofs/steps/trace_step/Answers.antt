use Rattle.std.proofs.Common.{◌≡◌, ap, sym, subst, ◌∙◌, arith}
use Rattle.ppd_sem.specs.declared.proc.Proc.{Proc}
use Rattle.ppd_sem.specs.Process.{need_of}
use Rattle.ppd_sem.specs.Runs.{IsRunning}
use Rattle.ppd_trace.specs.declared.tracer.Tracer.{Tracer}
use Rattle.ppd_trace.proofs.Processes.{stepped_by}
use Rattle.ppd_trace.proofs.Keeping.{same_proc}
use Rattle.ppd_trace.proofs.Spent.{cells_within}
use Rattle.ppd_trace.proofs.steps.trace_step.Goals as goal

pub meet-requires-clause-proc : goal.meet-requires-clause-proc
meet-requires-clause-proc g c =
    subst (λ (s : Proc). IsRunning c.args.subject.now.program.now s)
    (sym (ap (λ (t : Tracer). t.proc) c.in_ok-trace_by.ensures.value ∙ same_proc c.args.subject.now.program.now c.args.subject.now.plan.now c.args.subject.now.told.now.story c.args.subject.now.process c.args.taken.now c.args.tracer.now)) c.requires.proc

pub meet-requires-clause-need : goal.meet-requires-clause-need
meet-requires-clause-need g c =
    subst (λ (s : Proc). c.args.taken.now.need ≡ need_of c.args.subject.now.program.now c.args.subject.now.plan.now s)
    (sym (ap (λ (t : Tracer). t.proc) c.in_ok-trace_by.ensures.value ∙ same_proc c.args.subject.now.program.now c.args.subject.now.plan.now c.args.subject.now.told.now.story c.args.subject.now.process c.args.taken.now c.args.tracer.now)) c.requires.need

pub returns-clause-ok : goal.returns-clause-ok
returns-clause-ok g c =
    stepped_by c.meet.result c.args.subject.now.program.now c.args.subject.now.plan.now c.args.subject.now.told.now.story c.args.subject.now.process c.args.taken.now c.args.tracer.now c.trace_by.new.tracer c.meet.new.proc c.in_ok-trace_by.ensures.value c.meet.ensures.ok

pub returns-in_err-trace_by-clause-cost : goal.returns-in_err-trace_by-clause-cost
returns-in_err-trace_by-clause-cost g c = omega (arith, c.in_err-trace_by.ensures.cost, cells_within c.args.subject.now.program.now c.args.subject.now.plan.now c.args.tracer.now.proc c.args.taken.now)

pub returns-clause-cost : goal.returns-clause-cost
returns-clause-cost g c = omega (arith, c.in_ok-trace_by.ensures.cost, c.tick.ensures, cells_within c.args.subject.now.program.now c.args.subject.now.plan.now c.args.tracer.now.proc c.args.taken.now)
