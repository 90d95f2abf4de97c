use Rattle.std.proofs.Common.{◌≡◌, ◌≤◌, ◌+◌, ◌*◌, drop, length, take}
use Rattle.std.specs.Prelude.{fold}
use Rattle.ppd_sem.specs.Runs.{IsRunning}
use Rattle.ppd_model.specs.declared.tracing.Tracing.{Tracing}
use Rattle.ppd_model.specs.FullTrace.{trace_step}
use Rattle.ppd_model.specs.LocalTags.{AreOwn}
use Rattle.ppd_trace.specs.Runs.{tracer_of}
use Rattle.ppd_trace.specs.Spending.{most_statement_cells}
use Rattle.ppd_trace.proofs.steps.trace_steps.Given as goal

abbrev pub invariant-loop-taken : goal.invariant-loop-taken
invariant-loop-taken g l = record {
  traced : (first : Tracing) → l.fn.tracer ≡ tracer_of first
      → l.tracer ≡ tracer_of (fold (trace_step l.subject.program.now l.subject.plan.now l.subject.told.now.story l.subject.process) first (take l.taken-index l.own));
  own : AreOwn l.subject.program.now l.subject.plan.now l.tracer.proc (drop l.taken-index l.own);
  running : IsRunning l.subject.program.now l.tracer.proc;
  few : length l.tracer.events ≤ l.taken-index;
  spent : l.steps ≤ l.fn.steps + (3 * most_statement_cells l.subject.program.now + 12) * l.taken-index;
}
