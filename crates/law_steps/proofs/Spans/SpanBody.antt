-- The step and the event that an interval is given before its step opens or closes one; events stay in the trace.
use Rattle.std.proofs.Common.{◌≡◌, ℕ, zero, suc, ◌+◌, List, [], ◌∷◌, ◌++◌, length, Some, None, Bool, true, false, refl, ap, ◌∙◌}
use Rattle.std.proofs.lemmas.Option.{none-some}
use Rattle.std.specs.Prelude.{⊤, slice_get, fold}
use Rattle.ppd_ast.specs.declared.plan.Plan.{Plan}
use Rattle.ppd_ast.specs.declared.program.Program.{Program}
use Rattle.ppd_sem.specs.declared.proc.Need.{Need}
use Rattle.ppd_sem.specs.declared.proc.Need.TheVariants.{Read, Budget, Stopped}
use Rattle.ppd_sem.specs.Described.{is_event}
use Rattle.ppd_model.specs.declared.trace.TracedEvent.{TracedEvent}
use Rattle.ppd_model.specs.declared.tracing.Story.{Story}
use Rattle.ppd_model.specs.declared.tracing.Taken.{Taken}
use Rattle.ppd_model.specs.declared.tracing.Tracing.{Tracing}
use Rattle.ppd_model.specs.FullTrace.{trace_by, trace_step, traced_by, event_of}
use Rattle.ppd_model.specs.Intervals.{Span, Split, innermost, own, with_own, with_part, with_step}
use Rattle.ppd_model.proofs.CountedOn.{last_at}
use Rattle.law_steps.specs.Coming.Pieces.{Inner}
use Rattle.law_steps.proofs.Spans.SpanSteps.{SpanAt, SpanPast, change_inner, change_own, change_past}

-- the step is an interval's own
abbrev pub IsOwnStep : Need → Type 0
IsOwnStep Budget = ⊥
IsOwnStep Stopped = ⊥
IsOwnStep n = ⊤

abbrev pub step_gain : Span → Span
step_gain i = record i { steps = i.steps + 1 }

abbrev pub gain : Bool → ℕ → Span → Span
gain true e i = with_part (own e) (step_gain i)
gain false e i = step_gain i

abbrev pub body : Bool → Split → Split
body true x = innermost (with_part (own (length x.trace.events))) (innermost step_gain x)
body false x = innermost step_gain x

pub body_is : (n : Need) (x : Split) → IsOwnStep n → with_own n (with_step n x) ≡ body (is_event n) x
body_is Budget x o = absurd o
body_is Stopped x o = absurd o
body_is n x o = refl

pub body_own : (b : Bool) (x : Split) (k : ℕ) (i : Span) → SpanAt x.spans x.running None k i → SpanAt (body b x).spans (body b x).running None k (gain b (length x.trace.events) i)
body_own false x k i a = change_own step_gain (λ m j. refl) x.spans x.running k i a
body_own true x k i a =
    change_own (with_part (own (length x.trace.events))) (λ m j. refl) (innermost step_gain x).spans x.running k (step_gain i) (change_own step_gain (λ m j. refl) x.spans x.running k i a)

pub body_inner : (b : Bool) (x : Split) (m : Inner) (k : ℕ) (i : Span) → SpanAt x.spans x.running (Some m) k i → SpanAt (body b x).spans (body b x).running (Some m) k i
body_inner false x m k i a = change_inner step_gain (λ m j. refl) x.spans x.running m k i a
body_inner true x m k i a =
    change_inner (with_part (own (length x.trace.events))) (λ m j. refl) (innermost step_gain x).spans x.running m k i (change_inner step_gain (λ m j. refl) x.spans x.running m k i a)

pub body_past : (b : Bool) (x : Split) (k : ℕ) (i : Span) → SpanPast x.spans x.running k i → SpanPast (body b x).spans (body b x).running k i
body_past false x k i a = change_past step_gain x.spans x.running k i a
body_past true x k i a = change_past (with_part (own (length x.trace.events))) (innermost step_gain x).spans x.running k i (change_past step_gain x.spans x.running k i a)

-- ---- events

put_there : {A : Type 0} (xs : List A) (y : A) (k : ℕ) (i : A) → slice_get xs k ≡ Some i → slice_get (xs ++ y ∷ []) k ≡ Some i
put_there [] y k i e = absurd (none-some i e)
put_there (x ∷ xs) y zero i e = e
put_there (x ∷ xs) y (suc k) i e = put_there xs y k i e

module _ (program : Program) (plan : Plan) (story : Story) (p : ℕ) where
  abbrev pub event_at : Taken → Tracing → TracedEvent
  event_at x t = traced_by program story x t (event_of program plan t.proc x t.proc.todo)

  abbrev pub events_by : Bool → Taken → Tracing → List TracedEvent
  events_by true x t = t.events ++ event_at x t ∷ []
  events_by false x t = t.events

  pub events_are : (n : Need) (x : Taken) (t : Tracing) → (trace_by program plan story p x n t).events ≡ events_by (is_event n) x t
  events_are (Read c) x t = refl
  events_are n x t = refl

  keeps_by : (b : Bool) (x : Taken) (t : Tracing) (e : ℕ) (v : TracedEvent) → slice_get t.events e ≡ Some v → slice_get (events_by b x t) e ≡ Some v
  keeps_by true x t e v h = put_there t.events (event_at x t) e v h
  keeps_by false x t e v h = h

  -- an event stays, and that of the step is the last
  pub event_stays : (x : Taken) (t : Tracing) (e : ℕ) (v : TracedEvent) → slice_get t.events e ≡ Some v → slice_get (trace_step program plan story p t x).events e ≡ Some v
  event_stays x t e v h = ap (λ es. slice_get es e) (events_are x.need x t) ∙ keeps_by (is_event x.need) x t e v h

  pub events_stay : (xs : List Taken) (t : Tracing) (e : ℕ) (v : TracedEvent) → slice_get t.events e ≡ Some v → slice_get (fold (trace_step program plan story p) t xs).events e ≡ Some v
  events_stay [] t e v h = h
  events_stay (x ∷ xs) t e v h = events_stay xs (trace_step program plan story p t x) e v (event_stays x t e v h)

  pub event_last : (x : Taken) (t : Tracing) → is_event x.need ≡ true → slice_get (trace_step program plan story p t x).events (length t.events) ≡ Some (event_at x t)
  event_last x t h = ap (λ es. slice_get es (length t.events)) (events_are x.need x t ∙ ap (λ b. events_by b x t) h) ∙ last_at t.events (event_at x t)
