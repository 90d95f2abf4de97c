-- The steps of a process's trace, with an event and without one.
use Rattle.std.proofs.Common.{◌≡◌, ℕ, true, false, refl}
use Rattle.ppd_ast.specs.declared.plan.Plan.{Plan}
use Rattle.ppd_ast.specs.declared.program.Program.{Program}
use Rattle.ppd_sem.specs.declared.proc.Need.{Need}
use Rattle.ppd_sem.specs.declared.proc.Need.TheVariants.{Read, Enter, Budget, Stopped}
use Rattle.ppd_sem.specs.Described.{is_event}
use Rattle.ppd_model.specs.declared.tracing.Story.{Story}
use Rattle.ppd_model.specs.declared.tracing.Taken.{Taken}
use Rattle.ppd_model.specs.declared.tracing.Tracing.{Tracing}
use Rattle.ppd_model.specs.FullTrace.{trace_by, with_event}
use Rattle.ppd_trace.specs.Tagging.{answers_by}

pub without_event : (program : Program) (plan : Plan) (story : Story) (p : ℕ) (x : Taken) (n : Need) (t : Tracing) → is_event n ≡ false
    → trace_by program plan story p x n t ≡ record t { answers = answers_by n x.writer t.answers }
without_event program plan story p x (Read c) t e = refl
without_event program plan story p x (Enter b u) t e = refl
without_event program plan story p x Budget t e = refl
without_event program plan story p x Stopped t e = refl
without_event program plan story p x n t e = absurd (cc e)

pub by_event : (program : Program) (plan : Plan) (story : Story) (p : ℕ) (x : Taken) (n : Need) (t : Tracing) → is_event n ≡ true
    → trace_by program plan story p x n t ≡ with_event program plan story p x t
by_event program plan story p x (Read c) t e = absurd (cc e)
by_event program plan story p x (Enter b u) t e = absurd (cc e)
by_event program plan story p x Budget t e = absurd (cc e)
by_event program plan story p x Stopped t e = absurd (cc e)
by_event program plan story p x n t e = refl
