-- Each step that finishes or traps a statement is an event of the trace, under the name that it has.
use Rattle.ppd_model.specs.Setting.{Setting}
use Rattle.law_steps.specs.Sound.{IsEventOf, event_at}
use Rattle.ppd_ast.specs.declared.plan.Plan.{Plan}
use Rattle.ppd_ast.specs.declared.program.Program.{Program}
use Rattle.ppd_model.proofs.CountedOn.{kept_at, last_at}
use Rattle.ppd_model.proofs.ParentEvents.{events_at}
use Rattle.ppd_model.specs.FullTrace.{begun_tracing, event_of, full_trace, me_in, trace_by, trace_step, traced_by, tracing_of}
use Rattle.ppd_model.specs.Story.{story}
use Rattle.ppd_model.specs.declared.trace.EventId.{EventId}
use Rattle.ppd_model.specs.declared.trace.TracedEvent.{TracedEvent}
use Rattle.ppd_model.specs.declared.tracing.Story.{Story}
use Rattle.ppd_model.specs.declared.tracing.Taken.{Taken}
use Rattle.ppd_model.specs.declared.tracing.Tracing.{Tracing}
use Rattle.ppd_sem.specs.Described.{is_event}
use Rattle.ppd_sem.specs.Process.{started}
use Rattle.ppd_sem.specs.declared.proc.Need.{Need}
use Rattle.ppd_sem.specs.declared.proc.Need.TheVariants.{Budget, Enter, Read, Stopped}
use Rattle.std.proofs.Common.{List, Some, [], ap, arith, inl, inr, length, refl, suc, sym, true, zero, ℕ, ◌++◌, ◌+◌, ◌∙◌, ◌∷◌, ◌≡◌, ◌⊎◌}
use Rattle.std.proofs.lemmas.List.Sums.{fold-append}
use Rattle.std.specs.Prelude.{fold, get_or, slice_get}

module _ (program : Program) (plan : Plan) (story : Story) (p : ℕ) where
  abbrev after_all : Tracing → List Taken → Tracing
  after_all t xs = fold (trace_step program plan story p) t xs

  abbrev pub traced : Tracing → Taken → TracedEvent
  traced t x = traced_by program story x t (event_of program plan t.proc x t.proc.todo)

  pub kept_by : (x : Taken) (n : Need) (t : Tracing) (i : ℕ) (e : TracedEvent) → slice_get t.events i ≡ Some e → slice_get (trace_by program plan story p x n t).events i ≡ Some e
  kept_by x (Read c) t i e h = h
  kept_by x (Enter b u) t i e h = h
  kept_by x Budget t i e h = h
  kept_by x Stopped t i e h = h
  kept_by x n t i e h = kept_at t.events (traced t x ∷ []) i e h

  -- the events so far stay
  pub kept : (t : Tracing) (xs : List Taken) (i : ℕ) (e : TracedEvent) → slice_get t.events i ≡ Some e → slice_get (after_all t xs).events i ≡ Some e
  kept t [] i e h = h
  kept t (x ∷ xs) i e h = kept (trace_step program plan story p t x) xs i e (kept_by x x.need t i e h)

  pub new_by : (x : Taken) (n : Need) (t : Tracing) → is_event n ≡ true → slice_get (trace_by program plan story p x n t).events (length t.events) ≡ Some (traced t x)
  new_by x (Read c) t e = absurd (cc)
  new_by x (Enter b u) t e = absurd (cc)
  new_by x Budget t e = absurd (cc)
  new_by x Stopped t e = absurd (cc)
  new_by x n t e = last_at t.events (traced t x)

  -- a step's event stays at its number
  pub there : (t : Tracing) (before : List Taken) (x : Taken) (after : List Taken) → is_event x.need ≡ true
      → slice_get (after_all t (before ++ x ∷ after)).events (length (after_all t before).events) ≡ Some (traced (after_all t before) x)
  there t [] x after e = kept (trace_step program plan story p t x) after (length t.events) (traced t x) (new_by x x.need t e)
  there t (y ∷ before) x after e = there (trace_step program plan story p t y) before x after e

-- ---- each event is of a step

at_end : {A : Type 0} (xs : List A) (y : A) (n : ℕ) (z : A) → slice_get (xs ++ y ∷ []) n ≡ Some z → (slice_get xs n ≡ Some z) ⊎ (z ≡ y)
at_end [] y zero z e = inr (cc)
at_end [] y (suc n) z e = absurd (cc)
at_end (x ∷ xs) y zero z e = inl e
at_end (x ∷ xs) y (suc n) z e = at_end xs y n z e

module _ (program : Program) (plan : Plan) (story : Story) (p : ℕ) where
  -- the step of an event
  pub record IsStepOf (t : Tracing) (xs : List Taken) (e : TracedEvent) : Type 0 where
    pub before : List Taken
    pub taken : Taken
    pub after : List Taken
    pub steps_are : xs ≡ before ++ taken ∷ after
    pub finishes : is_event taken.need ≡ true
    pub event_is : e ≡ traced program plan story p (fold (trace_step program plan story p) t before) taken

  one_step : (x : Taken) (n : Need) (t : Tracing) (i : ℕ) (e : TracedEvent) → slice_get (trace_by program plan story p x n t).events i ≡ Some e
      → (slice_get t.events i ≡ Some e) ⊎ ((is_event n ≡ true) × (e ≡ traced program plan story p t x))
  one_step x (Read c) t i e h = inl h
  one_step x (Enter b u) t i e h = inl h
  one_step x Budget t i e h = inl h
  one_step x Stopped t i e h = inl h
  one_step x n t i e h = elim (at_end t.events (traced program plan story p t x) i e h) [
    | inl old ↦ inl old
    | inr new ↦ inr (refl, new)
  ]

  step_of : (t : Tracing) (xs : List Taken) (i : ℕ) (e : TracedEvent) → slice_get (fold (trace_step program plan story p) t xs).events i ≡ Some e → (slice_get t.events i ≡ Some e) ⊎ IsStepOf t xs e
  step_of t [] i e h = inl h
  step_of t (x ∷ xs) i e h = elim (step_of (trace_step program plan story p t x) xs i e h) [
    | inl old ↦ elim (one_step x x.need t i e old) [
      | inl older ↦ inl older
      | inr new ↦ inr (record { before = []; taken = x; after = xs; steps_are = refl; finishes = new.0; event_is = new.1 })
    ]
    | inr s ↦ inr (record { before = x ∷ s.before; taken = s.taken; after = s.after; steps_are = ap (λ ys. x ∷ ys) s.steps_are; finishes = s.finishes; event_is = s.event_is })
  ]

module _ (setting : Setting) (h : List ℕ) (p : ℕ) where
  abbrev told_story : Story
  told_story = story setting h

  -- process p, traced by these of its steps
  abbrev pub traced_by_steps : List Taken → Tracing
  traced_by_steps steps = fold (trace_step setting.program setting.plan told_story p) (begun_tracing (started setting.program setting.plan p setting.budget)) steps

  pub events_of : get_or (full_trace setting (story setting h)).events p [] ≡ (traced_by_steps (get_or told_story.steps p [])).events
  events_of =
      events_at setting told_story 0 p told_story.steps ∙ ap (λ m. (tracing_of setting told_story m (get_or told_story.steps p [])).events) (let z : 0 + p ≡ p = omega arith in z)

  -- the event of a step is in the trace, by its name
  pub is_event_of : (before : List Taken) (x : Taken) (after : List Taken) (s : ℕ) → get_or told_story.steps p [] ≡ before ++ x ∷ after → is_event x.need ≡ true
      → (event_of setting.program setting.plan (traced_by_steps before).proc x (traced_by_steps before).proc.todo).stmt ≡ s
      → IsEventOf (full_trace setting (story setting h)) (me_in p (traced_by_steps before)) s
  is_event_of before x after s steps e is = record {
    event = traced setting.program setting.plan told_story p (traced_by_steps before) x;
    there =
        ap (λ es. slice_get es (length (traced_by_steps before).events)) events_of
        ∙ ap (λ xs. slice_get (traced_by_steps xs).events (length (traced_by_steps before).events)) steps
        ∙ there setting.program setting.plan told_story p (begun_tracing (started setting.program setting.plan p setting.budget)) before x after e;
    stmt_is = is;
  }

  -- each event of the trace is of a step
  pub event_step : (n : ℕ) (e : TracedEvent) → event_at (full_trace setting (story setting h)) p n ≡ Some e → IsStepOf setting.program setting.plan told_story p (begun_tracing (started setting.program setting.plan p setting.budget)) (get_or told_story.steps p []) e
  event_step n e is = elim (step_of setting.program setting.plan told_story p (begun_tracing (started setting.program setting.plan p setting.budget)) (get_or told_story.steps p []) n e (ap (λ es. slice_get es n) (sym events_of) ∙ is)) [
    | inl none ↦ absurd (cc)
    | inr s ↦ s
  ]

  -- what is in the trace of its first steps is in the trace
  pub in_trace : (before after : List Taken) (id : EventId) (e : TracedEvent) (s : ℕ) → get_or told_story.steps p [] ≡ before ++ after → id.process ≡ p → slice_get (traced_by_steps before).events id.number ≡ Some e → e.event.stmt ≡ s
      → IsEventOf (full_trace setting (story setting h)) id s
  in_trace before after id e s steps own there is = record {
    event = e;
    there =
        ap (λ q. event_at (full_trace setting (story setting h)) q id.number) own
        ∙ ap (λ es. slice_get es id.number) events_of
        ∙ ap (λ xs. slice_get (traced_by_steps xs).events id.number) steps
        ∙ ap (λ (t : Tracing). slice_get t.events id.number) (fold-append (trace_step setting.program setting.plan told_story p) (begun_tracing (started setting.program setting.plan p setting.budget)) before after)
        ∙ kept setting.program setting.plan told_story p (traced_by_steps before) after id.number e there;
    stmt_is = is;
  }
