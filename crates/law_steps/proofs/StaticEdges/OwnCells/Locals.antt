-- The values of local cells that events read come over the static edges.
use Rattle.std.proofs.Common.{◌≡◌, ℕ, zero, suc, ◌<◌, ℤ, true, false, List, [], ◌∷◌, Option, Some, None, length, map, get_or, refl, sym, ap, ◌∙◌, subst, inl, inr}
use Rattle.ppd_model.specs.declared.tracing.Activation.{Activation}
use Rattle.ppd_model.specs.declared.tracing.Story.{Story}
use Rattle.ppd_model.specs.declared.tracing.Taken.{Taken}
use Rattle.ppd_model.specs.declared.tracing.Tracing.{Tracing}
use Rattle.std.specs.Prelude.{fold, slice_get}
use Rattle.std.proofs.lemmas.Bool.{cases_Bool}
use Rattle.ppd_ast.specs.Valid.{IsValid}
use Rattle.ppd_ast.specs.declared.plan.Plan.{Plan}
use Rattle.ppd_ast.specs.declared.program.Program.{Program}
use Rattle.ppd_ast.specs.Lookups.{body_of}
use Rattle.law_steps.specs.Course.{IsOnCourse, IsWay, calls_of}
use Rattle.law_steps.proofs.Course.Beginning.{starts_on_course}
use Rattle.law_steps.proofs.Course.Leading.{stays_on_course}
use Rattle.ppd_model.specs.declared.trace.EventId.{EventId}
use Rattle.ppd_model.specs.declared.trace.TracedEvent.{TracedEvent}
use Rattle.ppd_model.specs.FullTrace.{begun_tracing, event_of, me_in, tagged_after, trace_step, with_test}
use Rattle.ppd_model.specs.LocalTags.{AreOwn, locals}
use Rattle.ppd_model.proofs.Homes.{AreHome, IsHome, act-home, started-home}
use Rattle.ppd_model.proofs.LocalSteps.{Fits, FitsHead, fits, test_locals}
use Rattle.ppd_model.proofs.TestSteps.{event_acts, other_acts}
use Rattle.ppd_model.proofs.LocalDeeds.{no_tag}
use Rattle.ppd_sem.specs.declared.proc.Frame.{Frame}
use Rattle.ppd_sem.specs.declared.proc.Need.{Need}
use Rattle.ppd_sem.specs.declared.proc.Proc.{Proc}
use Rattle.ppd_sem.specs.declared.proc.Todo.{Todo}
use Rattle.ppd_sem.specs.Process.{act, act_by_need, head_deed, need_of, started, top_frame}
use Rattle.ppd_sem.proofs.NeedWords.{act_at}
use Rattle.ppd_sem.specs.Runs.{IsRunning, bodies_in}
use Rattle.ppd_sem.proofs.Kept.{act-runs}
use Rattle.ppd_sem.proofs.Offers.{completes}
use Rattle.ppd_sem.proofs.Running.{head_over}
use Rattle.ppd_sem.proofs.Validity.{valid-runnable}
use Rattle.ppd_sem.specs.Described.{is_event}
use Rattle.ppd_sem.specs.Passed.{next_stmt_of}
use Rattle.law_steps.proofs.StaticEdges.OwnCells.Acting.{by_need}
use Rattle.law_steps.proofs.StaticEdges.Events.{kept_by, new_by, traced}
use Rattle.law_steps.proofs.StaticEdges.Frames.{AreSound, IsOfTop, links, relinked, relinks, started_sound}
use Rattle.law_steps.proofs.StaticEdges.States.{runs_all}
use Rattle.law_steps.proofs.StaticEdges.OwnCells.Still.{IsStill, none_to_do, still_need}
use Rattle.law_steps.proofs.StaticEdges.OwnCells.Ways.{AllCome, AreCome, IsCome, more_all}

module _ (program : Program) (plan : Plan) (story : Story) (p : ℕ) (v : IsValid program) where
  abbrev next : Tracing → Taken → Tracing
  next t x = trace_step program plan story p t x

  -- the event of this name is in the trace so far, and of this statement
  pub record IsIn (t : Tracing) (id : EventId) (s : ℕ) : Type 0 where
    pub own : id.process ≡ p
    pub event : TracedEvent
    pub there : slice_get t.events id.number ≡ Some event
    pub stmt_is : event.event.stmt ≡ s

  more_in : (t : Tracing) (x : Taken) (id : EventId) (s : ℕ) → IsIn t id s → IsIn (next t x) id s
  more_in t x id s i = record { own = i.own; event = i.event; there = kept_by program plan story p x x.need t id.number i.event i.there; stmt_is = i.stmt_is }

  new_in : (t : Tracing) (x : Taken) (s : ℕ) → is_event x.need ≡ true → (event_of program plan t.proc x t.proc.todo).stmt ≡ s → IsIn (next t x) (me_in p t) s
  new_in t x s e is = record { own = refl; event = traced program plan story p t x; there = new_by program plan story p x x.need t e; stmt_is = is }

  -- what holds of each trace of a process
  pub record Holds (t : Tracing) : Type 0 where
    pub course : IsOnCourse program plan t.proc
    pub home : IsHome program t.proc
    pub sound : AreSound program (links t.proc.frames)
    pub runs : IsRunning program t.proc
    pub come : AllCome program (IsIn t) (next_stmt_of t.proc.todo ∷ calls_of t.proc.frames) (locals t.activations)

  -- ---- one step

  module _ (u : Tracing) (x : Taken) (own : x.need ≡ need_of program plan u.proc) (holds : Holds u) where
    -- the last writes, with the trace's new events
    later : AllCome program (IsIn (next u x)) (next_stmt_of u.proc.todo ∷ calls_of u.proc.frames) (locals u.activations)
    later = more_all program (IsIn u) (IsIn (next u x)) (λ id s i. more_in u x id s i) (next_stmt_of u.proc.todo ∷ calls_of u.proc.frames) (locals u.activations) holds.come

    -- where the process and the activations are as they were
    put : (after : Proc) (acts : List Activation) → next_stmt_of after.todo ≡ next_stmt_of u.proc.todo → calls_of after.frames ≡ calls_of u.proc.frames → acts ≡ u.activations
        → AllCome program (IsIn (next u x)) (next_stmt_of after.todo ∷ calls_of after.frames) (locals acts)
    put after acts head calls same =
        subst (λ xs. AllCome program (IsIn (next u x)) (next_stmt_of after.todo ∷ calls_of after.frames) (locals xs)) (sym same)
        (subst (λ o. AllCome program (IsIn (next u x)) (o ∷ calls_of after.frames) (locals u.activations)) (sym head)
        (subst (λ cs. AllCome program (IsIn (next u x)) (next_stmt_of u.proc.todo ∷ cs) (locals u.activations)) (sym calls) later))

    module _ (t : Todo) (ts : List Todo) (is : u.proc.todo ≡ t ∷ ts) where
      acts_is : act program plan u.proc x.answer ≡ act_by_need program plan x.answer t ts (need_of program plan u.proc) u.proc
      acts_is = ap (λ todo. act_at program plan x.answer todo u.proc) is

      fit : Fits (need_of program plan u.proc) (head_deed program t u.proc)
      fit = subst (λ todo. FitsHead program u.proc (need_of program plan u.proc) todo) is (fits program plan u.proc)

      idle : is_event x.need ≡ false → AllCome program (IsIn (next u x)) (next_stmt_of (next u x).proc.todo ∷ calls_of (next u x).proc.frames) (locals (next u x).activations)
      idle none =
          let i : IsStill u.proc (act_by_need program plan x.answer t ts (need_of program plan u.proc) u.proc) t =
          still_need program plan x.answer t ts u.proc (need_of program plan u.proc) is (ap is_event (sym own) ∙ none) fit in
          put (act program plan u.proc x.answer) (next u x).activations (ap (λ (s : Proc). next_stmt_of s.todo) acts_is ∙ i.head ∙ sym (ap next_stmt_of is)) (ap (λ (s : Proc). calls_of s.frames) acts_is ∙ i.calls)
          (other_acts program plan story p x x.need u none)

      there : t.stmt < length program.stmts
      there = (head_over program u.proc t holds.runs (ap (λ todo. slice_get todo 0) is)).there

      abbrev tested : List Activation
      tested = with_test program (me_in p u) (event_of program plan u.proc x u.proc.todo) u.activations

      event : is_event x.need ≡ true → AllCome program (IsIn (next u x)) (next_stmt_of (next u x).proc.todo ∷ calls_of (next u x).proc.frames) (locals (next u x).activations)
      event finishes =
          let me : IsIn (next u x) (me_in p u) t.stmt = new_in u x t.stmt finishes (ap (λ todo. (event_of program plan u.proc x todo).stmt) is) in
          let n : Need = need_of program plan u.proc in
          let home : IsHome program (act_by_need program plan x.answer t ts n u.proc) = subst (λ (s : Proc). IsHome program s) acts_is (act-home program plan u.proc x.answer v holds.home) in
          let old : AllCome program (IsIn (next u x)) (Some t.stmt ∷ calls_of u.proc.frames) (locals tested) =
          subst (λ xs. AllCome program (IsIn (next u x)) (Some t.stmt ∷ calls_of u.proc.frames) xs) (sym (test_locals program (me_in p u) (event_of program plan u.proc x u.proc.todo) u.activations))
          (subst (λ o. AllCome program (IsIn (next u x)) (o ∷ calls_of u.proc.frames) (locals u.activations)) (ap next_stmt_of is) later) in
          let went = by_need program plan v (IsIn (next u x)) x.answer t ts (me_in p u) there me u.proc tested
          (record {
            way = subst (λ todo. IsWay program plan (calls_of u.proc.frames) todo) is holds.course;
            home = subst (λ todo. AreHome program (bodies_in u.proc.frames) todo) is holds.home;
            linked = holds.sound.linked;
            come = old;
          })
          is n (ap is_event (sym own) ∙ finishes) (completes program plan u.proc t ts is) fit home in
          let now : (next u x).activations ≡ tagged_after program u.proc (Some (me_in p u)) n tested =
          event_acts program plan story p x x.need u finishes ∙ ap (λ m. tagged_after program u.proc (Some (me_in p u)) m tested) own in
          subst (λ (acts : List Activation). AllCome program (IsIn (next u x)) (next_stmt_of (next u x).proc.todo ∷ calls_of (next u x).proc.frames) (locals acts)) (sym now)
          (subst (λ (s : Proc). AllCome program (IsIn (next u x)) (next_stmt_of s.todo ∷ calls_of s.frames) (locals (tagged_after program u.proc (Some (me_in p u)) n tested))) (sym acts_is) went)

      sound_on : AreSound program (links (act program plan u.proc x.answer).frames)
      sound_on =
          relinked program v t.stmt there (links u.proc.frames) (links (act program plan u.proc x.answer).frames) (relinks program plan u.proc x.answer t ts is)
          (of_top u.proc.frames (subst (λ todo. AreHome program (bodies_in u.proc.frames) todo) is holds.home)) holds.sound
        where
          of_top : (frames : List Frame) → AreHome program (bodies_in frames) (t ∷ ts) → IsOfTop program v t.stmt there (links frames)
          of_top [] h = absurd h
          of_top (f ∷ fs) h = h.0

    come_on : (todo : List Todo) → u.proc.todo ≡ todo → AllCome program (IsIn (next u x)) (next_stmt_of (next u x).proc.todo ∷ calls_of (next u x).proc.frames) (locals (next u x).activations)
    come_on [] is =
        let same : act program plan u.proc x.answer ≡ u.proc = ap (λ todo. act_at program plan x.answer todo u.proc) is in
        put (act program plan u.proc x.answer) (next u x).activations (ap (λ (s : Proc). next_stmt_of s.todo) same) (ap (λ (s : Proc). calls_of s.frames) same)
        (other_acts program plan story p x x.need u (ap is_event own ∙ none_to_do program plan u.proc u.proc.status is))
    come_on (t ∷ ts) is = elim (cases_Bool (is_event x.need)) [
      | inl finishes ↦ event t ts is finishes
      | inr none ↦ idle t ts is none
    ]

    sound_next : (todo : List Todo) → u.proc.todo ≡ todo → AreSound program (links (act program plan u.proc x.answer).frames)
    sound_next [] is = subst (λ (s : Proc). AreSound program (links s.frames)) (sym (ap (λ todo. act_at program plan x.answer todo u.proc) is)) holds.sound
    sound_next (t ∷ ts) is = sound_on t ts is

    holds_next : Holds (next u x)
    holds_next = record {
      course = stays_on_course program plan u.proc x.answer v holds.course;
      home = act-home program plan u.proc x.answer v holds.home;
      sound = sound_next u.proc.todo refl;
      runs = act-runs program plan u.proc x.answer (valid-runnable program v) holds.runs;
      come = come_on u.proc.todo refl;
    }

  pub holds_all : (u : Tracing) (xs : List Taken) → AreOwn program plan u.proc xs → Holds u → Holds (fold (trace_step program plan story p) u xs)
  holds_all u [] own h = h
  holds_all u (x ∷ xs) own h = holds_all (next u x) xs own.1 (holds_next u x own.0 h)

  -- ---- the start

  no_tags : (cells : List ℤ) (c : ℕ) → get_or (map (λ _. no_tag) cells) c None ≡ None
  no_tags [] c = refl
  no_tags (x ∷ xs) zero = refl
  no_tags (x ∷ xs) (suc c) = no_tags xs c

  begun_come : (E : EventId → ℕ → Type 0) (o : Option ℕ) (cells : List ℤ) → AreCome program E o (map (λ _. no_tag) cells)
  begun_come E None cells = tt
  begun_come E (Some at) cells = λ c. subst (λ tag. IsCome program E (body_of program at) at c tag) (sym (no_tags cells c)) tt

  pub holds_start : (budget : ℕ) → Holds (begun_tracing (started program plan p budget))
  holds_start budget = record {
    course = (starts_on_course program plan p budget v).course;
    home = started-home program plan p budget v;
    sound = started_sound program plan p budget;
    runs = runs_all program plan story p budget [] v;
    come = (begun_come (IsIn (begun_tracing (started program plan p budget))) (next_stmt_of (started program plan p budget).todo) (top_frame (started program plan p budget).frames).cells, tt);
  }
