use Rattle.ppd_model.specs.Setting.{setting_of}
use Rattle.std.proofs.Common.{◌≡◌, ap}
use Rattle.ppd_sem.specs.Process.{started}
use Rattle.ppd_model.specs.FullTrace.{begun_tracing, tracing_of}
use Rattle.ppd_trace.specs.declared.tracer.Tracer.{Tracer}
use Rattle.ppd_trace.proofs.Done.{done_with}
use Rattle.ppd_trace.proofs.Processes.{none_begun, own_begun}
use Rattle.ppd_trace.proofs.steps.trace_process.Goals as goal

pub trace_steps-done-requires-clause-own : goal.trace_steps-done-requires-clause-own
trace_steps-done-requires-clause-own g c =
    own_begun c.args.subject.now.program.now c.args.subject.now.plan.now c.args.subject.now.process c.args.budget c.args.own.now c.in_ok-tracer.tracer c.in_ok-tracer.ensures.begun c.requires.own

pub trace_steps-done-requires-clause-none : goal.trace_steps-done-requires-clause-none
trace_steps-done-requires-clause-none g c =
    none_begun c.args.subject.now.program.now c.args.subject.now.plan.now c.args.subject.now.process c.args.budget c.in_ok-tracer.tracer c.in_ok-tracer.ensures.begun

pub returns-clause-events : goal.returns-clause-events
returns-clause-events g c =
    let program = c.args.subject.now.program.now in
    let plan = c.args.subject.now.plan.now in
    let story = c.args.subject.now.told.now.story in
    let p = c.args.subject.now.process in
    done_with c.trace_steps-done.result c.trace_steps-done.new.tracer.events c.and.result
    (λ events. events ≡ (tracing_of (setting_of program plan c.args.budget) story p c.args.own.now).events) _ c.and.ensures
    c.trace_steps-done.ensures.traced
    (λ traced. ap (λ (t : Tracer). t.events) (traced (begun_tracing (started program plan p c.args.budget)) c.in_ok-tracer.ensures.begun))
