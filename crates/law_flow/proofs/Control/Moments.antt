-- A moment of a process that goes on: its levels, with what it has to do, its activations and its running intervals.
use Rattle.std.proofs.Common.{◌≡◌, ℕ, true, false, List, [], ◌∷◌, ◌++◌, Option, Some, None, refl, ap, sym, subst, ◌∙◌, length, inl, inr}
use Rattle.std.specs.Prelude.{slice_get}
use Rattle.std.proofs.lemmas.Bool.{cases_Bool}
use Rattle.std.proofs.lemmas.Option.{none-some}
use Rattle.ppd_ast.specs.Valid.{IsValid}
use Rattle.ppd_ast.specs.declared.plan.Plan.{Plan}
use Rattle.ppd_ast.specs.declared.plan.Policy.{Policy}
use Rattle.ppd_ast.specs.declared.program.Program.{Program}
use Rattle.ppd_ast.specs.declared.status.Status.{Status}
use Rattle.ppd_ast.specs.Lookups.{body_of}
use Rattle.ppd_blocks.specs.Blocks.{plan_of}
use Rattle.ppd_sem.specs.declared.event.Event.{Event}
use Rattle.ppd_sem.specs.declared.proc.Answer.{Answer}
use Rattle.ppd_sem.specs.declared.proc.Frame.{Frame}
use Rattle.ppd_sem.specs.declared.proc.Need.{Need}
use Rattle.ppd_sem.specs.declared.proc.Need.TheVariants as need
use Rattle.ppd_sem.specs.declared.proc.Proc.{Proc}
use Rattle.ppd_sem.specs.declared.proc.Todo.{Todo}
use Rattle.ppd_sem.specs.Described.{trap_of, is_event}
use Rattle.ppd_sem.specs.Process.{act, act_by_need, need_of, top_frame}
use Rattle.ppd_sem.proofs.NeedWords.{act_at, need_of_running}
use Rattle.ppd_sem.proofs.Progress.{act-stopped, need_at_status, need_at_todo}
use Rattle.ppd_sem.specs.Runs.{bodies_in}
use Rattle.ppd_model.specs.declared.tracing.Activation.{Activation}
use Rattle.ppd_model.specs.declared.tracing.Story.{Story}
use Rattle.ppd_model.specs.declared.tracing.Taken.{Taken}
use Rattle.ppd_model.specs.declared.tracing.Tracing.{Tracing}
use Rattle.ppd_model.specs.declared.trace.EventId.{EventId}
use Rattle.ppd_model.specs.FullTrace.{Tag, event_of, me_in, tagged_after, trace_by, traced_by, with_test}
use Rattle.ppd_model.specs.Intervals.{Split, split_step}
use Rattle.ppd_model.specs.Marks.{closed, opened}
use Rattle.ppd_model.proofs.CountedOn.{last_at}
use Rattle.ppd_model.proofs.Homes.{AreHome, IsHome}
use Rattle.ppd_model.proofs.TestSteps.{View, event_acts, other_acts, views}
use Rattle.law_flow.specs.Places.Levels.{Level as Place}
use Rattle.law_flow.proofs.Vocabulary.Levels.{levels_after}
use Rattle.law_flow.proofs.Control.Along.{EventOf, Given, runs_after}
use Rattle.law_flow.proofs.Control.Advance.{advance}
use Rattle.law_flow.proofs.Control.Levels.{AllHold, Level, TopLeaf, runs_of, todo_of, views_of}
use Rattle.law_flow.proofs.Control.Moved.{Moved, begun, ended, owned, tested}
use Rattle.law_flow.proofs.Control.Seen.{AreLater, AreSeen, IsTraced, seen_step}
use Rattle.law_flow.proofs.Control.Steps.{Step, value_in}
use Rattle.law_flow.proofs.Control.Stepping.{now_by, step_running}

tested_views : (program : Program) (me : EventId) (e : Event) (acts : List Activation)
    → tested program me e (views acts) ≡ views (with_test program me e acts)
tested_views program me e [] = refl
tested_views program me e (a ∷ as') = refl

event_now : (program : Program) (plan : Plan) (v : IsValid program) (a : Answer) (t : Todo) (ts : List Todo) (s : Proc)
    (is : s.todo ≡ t ∷ ts) (me : Tag) (old : List View) (acts : List Activation) (n : Need) → is_event n ≡ true
    → now_by program plan v a t ts s is me old acts n ≡ views (tagged_after program s me n acts)
event_now program plan v a t ts s is me old acts (need.Read c) e = absurd (cc)
event_now program plan v a t ts s is me old acts (need.Enter b u) e = absurd (cc)
event_now program plan v a t ts s is me old acts need.Budget e = absurd (cc)
event_now program plan v a t ts s is me old acts need.Stopped e = absurd (cc)
event_now program plan v a t ts s is me old acts n e = refl

other_now : (program : Program) (plan : Plan) (v : IsValid program) (a : Answer) (t : Todo) (ts : List Todo) (s : Proc)
    (is : s.todo ≡ t ∷ ts) (me : Tag) (old : List View) (acts : List Activation) (n : Need) → is_event n ≡ false
    → now_by program plan v a t ts s is me old acts n ≡ old
other_now program plan v a t ts s is me old acts (need.Read c) e = refl
other_now program plan v a t ts s is me old acts (need.Enter b u) e = refl
other_now program plan v a t ts s is me old acts need.Budget e = refl
other_now program plan v a t ts s is me old acts need.Stopped e = refl
other_now program plan v a t ts s is me old acts n e = absurd (cc)

-- the event of a step is traced
pub events_after : (program : Program) (plan : Plan) (story : Story) (p : ℕ) (x : Taken) (n : Need) (t : Tracing)
    → is_event n ≡ true → (trace_by program plan story p x n t).events ≡ t.events ++ traced_by program story x t
    (event_of program plan t.proc x t.proc.todo) ∷ []
events_after program plan story p x (need.Read c) t e = absurd (cc)
events_after program plan story p x (need.Enter b u) t e = absurd (cc)
events_after program plan story p x need.Budget t e = absurd (cc)
events_after program plan story p x need.Stopped t e = absurd (cc)
events_after program plan story p x n t e = refl

home_of : (program : Program) (frames : List Frame) (t : Todo) (ts : List Todo)
    → AreHome program (bodies_in frames) (t ∷ ts) → (top_frame frames).body ≡ body_of program t.stmt
home_of program [] t ts h = absurd h
home_of program (f ∷ fs) t ts h = sym h.0

module _ (program : Program) (policy : Policy) (v : IsValid program) (story : Story) (p : ℕ) where
  abbrev plan : Plan
  plan = plan_of program policy

  pub record Moment (x : Split) (ls : List Place) : Type 0 where
    pub levels : List Level
    pub hold : AllHold program policy p levels
    pub leaf : TopLeaf program policy p levels
    pub todo_is : x.trace.proc.todo ≡ todo_of levels
    pub views_are : views x.trace.activations ≡ views_of levels
    pub seen : AreSeen plan x.trace.events [] ls (runs_of levels)

  module _ (x : Split) (ls : List Place) (taken : Taken) (own : taken.need ≡ need_of program plan x.trace.proc)
      (home : IsHome program x.trace.proc) (running : x.trace.proc.status ≡ None) (m : Moment x ls) where
    abbrev s : Proc
    s = x.trace.proc

    abbrev after : Split
    after = split_step program plan story p x taken

    abbrev e : Event
    e = event_of program plan s taken s.todo

    abbrev n : ℕ
    n = length x.trace.events

    abbrev acts : List Activation
    acts = with_test program (me_in p x.trace) e x.trace.activations

    traced : taken.need ≡ need_of program plan s → is_event taken.need ≡ true → IsTraced after.trace.events n e
    traced own is = record {
      traced = traced_by program story taken x.trace e;
      there = ap (λ es. slice_get es n) (events_after program plan story p taken taken.need x.trace is)
          ∙ last_at x.trace.events (traced_by program story taken x.trace e);
      event_is = refl;
    }

    -- with a head
    module _ (t : Todo) (ts : List Todo) (todo_is : s.todo ≡ t ∷ ts) where
      views_now : now_by program plan v taken.answer t ts s todo_is (Some (me_in p x.trace))
          (views x.trace.activations) acts taken.need ≡ views after.trace.activations
      views_now = elim (cases_Bool (is_event taken.need)) [
        | inl is ↦ event_now program plan v taken.answer t ts s todo_is (Some (me_in p x.trace))
            (views x.trace.activations) acts taken.need is
            ∙ ap views (sym (event_acts program plan story p taken taken.need x.trace is))
        | inr isnt ↦ other_now program plan v taken.answer t ts s todo_is (Some (me_in p x.trace))
            (views x.trace.activations) acts taken.need isnt
            ∙ ap views (sym (other_acts program plan story p taken taken.need x.trace isnt))
      ]

      needs : taken.need ≡ need_of_running program plan (t ∷ ts) s
      needs = own ∙ need_at_todo program plan s (t ∷ ts) running todo_is

      acts_as : after.trace.proc ≡ act_by_need program plan taken.answer t ts taken.need s
      acts_as = ap (λ todo. act_at program plan taken.answer todo s) todo_is
          ∙ ap (λ k. act_by_need program plan taken.answer t ts k s) (sym own)

      stepped : after.trace.proc.status ≡ None
          → Step program plan s t ts (Some (me_in p x.trace)) (views x.trace.activations)
          (views acts) taken.need after.trace.proc.todo (views after.trace.activations)
      stepped goes =
          let told = subst (λ k. (act_by_need program plan taken.answer t ts k s).status ≡ None
          → Step program plan s t ts (Some (me_in p x.trace)) (views x.trace.activations) (views acts) k
          (act_by_need program plan taken.answer t ts k s).todo
          (now_by program plan v taken.answer t ts s todo_is (Some (me_in p x.trace))
          (views x.trace.activations) acts k)) (sym needs)
          (step_running program plan v taken.answer t ts s todo_is (Some (me_in p x.trace))
          (views x.trace.activations) acts) in
          subst (λ now. Step program plan s t ts (Some (me_in p x.trace)) (views x.trace.activations)
          (views acts) taken.need after.trace.proc.todo now) views_now
          (subst (λ (q : Proc). Step program plan s t ts (Some (me_in p x.trace)) (views x.trace.activations)
          (views acts) taken.need q.todo (now_by program plan v taken.answer t ts s todo_is
          (Some (me_in p x.trace)) (views x.trace.activations) acts taken.need)) (sym acts_as)
          (told (sym (ap (λ (q : Proc). q.status) acts_as) ∙ goes)))

      the_event : EventOf program policy p v s n (length x.spans) e taken.need t
      the_event = record {
        is = ap (λ todo. (event_of program plan s taken todo).stmt) todo_is;
        trap_is = ap (λ todo. (event_of program plan s taken todo).trap) todo_is ∙ ap trap_of (sym own);
        value_is = ap (λ todo. (event_of program plan s taken todo).value) todo_is
            ∙ ap (λ k. value_in program s t k) (sym own);
        home = home_of program s.frames t ts (subst (λ todo. AreHome program (bodies_in s.frames) todo) todo_is home);
      }

      given : after.trace.proc.status ≡ None
          → Given program policy p v s n (length x.spans) e taken.need (views_of m.levels) after.trace.proc.todo
          (views after.trace.activations) (todo_of m.levels)
      given goes =
          subst (λ todo. Given program policy p v s n (length x.spans) e taken.need
          (views_of m.levels) after.trace.proc.todo (views after.trace.activations) todo) (sym todo_is ∙ m.todo_is)
          (subst (λ old. Given program policy p v s n (length x.spans) e taken.need old after.trace.proc.todo
          (views after.trace.activations) (t ∷ ts)) m.views_are (
            subst (λ test. Step program plan s t ts (Some (me_in p x.trace))
                (views x.trace.activations) test taken.need after.trace.proc.todo (views after.trace.activations))
                (sym (tested_views program (me_in p x.trace) e x.trace.activations)) (stepped goes),
            the_event,
          ))

      with_head : AreLater x.trace.events after.trace.events → after.trace.proc.status ≡ None
          → Moment after (levels_after program plan taken.need x ls)
      with_head later goes =
          let moved : Moved program policy p after.trace.proc.todo (views after.trace.activations)
          (runs_after program policy p v s n (length x.spans) e taken.need (runs_of m.levels)) =
          advance program policy p v s n (length x.spans) e taken.need after.trace.proc.todo
          (views after.trace.activations) m.levels m.hold m.leaf (given goes) in
          record {
            levels = moved.levels;
            hold = moved.hold;
            leaf = moved.leaf;
            todo_is = moved.todo_is;
            views_are = moved.now_is;
            seen = subst (λ rs. AreSeen plan after.trace.events [] (levels_after program plan taken.need x ls) rs)
                moved.runs_is
                (seen_step plan x.trace.events after.trace.events (is_event taken.need)
                (opened program plan s taken.need) (closed program plan s taken.need) n (length x.spans) e ls
                (runs_of m.levels) later (traced own) m.seen);
          }

    -- with nothing to do
    without_head : AreLater x.trace.events after.trace.events → s.todo ≡ []
        → Moment after (levels_after program plan taken.need x ls)
    without_head later nothing =
        let stopped : taken.need ≡ need.Stopped = own ∙ need_at_todo program plan s [] running nothing in
        let isnt : is_event taken.need ≡ false = ap is_event stopped in
        record {
          levels = m.levels;
          hold = m.hold;
          leaf = m.leaf;
          todo_is = ap (λ (q : Proc). q.todo) (act-stopped program plan s taken.answer (sym own ∙ stopped))
              ∙ m.todo_is;
          views_are = ap views (other_acts program plan story p taken taken.need x.trace isnt) ∙ m.views_are;
          seen = subst (λ rs. AreSeen plan after.trace.events [] (levels_after program plan taken.need x ls) rs)
              (ap (λ k. begun plan (length x.spans) (opened program plan s k)
              (ended (closed program plan s k) (owned (is_event k) n e (runs_of m.levels)))) stopped)
              (seen_step plan x.trace.events after.trace.events (is_event taken.need)
              (opened program plan s taken.need) (closed program plan s taken.need) n (length x.spans) e ls
              (runs_of m.levels) later (traced own) m.seen);
        }

    moment_step : AreLater x.trace.events after.trace.events → after.trace.proc.status ≡ None
        → Moment after (levels_after program plan taken.need x ls)
    moment_step later goes = by s.todo refl
      where
        by : (todo : List Todo) → s.todo ≡ todo → Moment after (levels_after program plan taken.need x ls)
        by [] is = without_head later is
        by (t ∷ ts) is = with_head t ts is later goes

  -- each step of a process that goes on
  pub step_moment : (x : Split) (ls : List Place) (taken : Taken) → taken.need ≡ need_of program plan x.trace.proc
      → IsHome program x.trace.proc → (x.trace.proc.status ≡ None → Moment x ls)
      → AreLater x.trace.events (split_step program plan story p x taken).trace.events
      → (split_step program plan story p x taken).trace.proc.status ≡ None
      → Moment (split_step program plan story p x taken) (levels_after program plan taken.need x ls)
  step_moment x ls taken own home m later goes = by x.trace.proc.status refl
    where
      by : (o : Option Status) → x.trace.proc.status ≡ o
          → Moment (split_step program plan story p x taken) (levels_after program plan taken.need x ls)
      by None is = moment_step x ls taken own home is (m is) later goes
      by (Some st) is =
          let same : act program plan x.trace.proc taken.answer ≡ x.trace.proc = act-stopped program plan x.trace.proc
          taken.answer (need_at_status program plan x.trace.proc (Some st) is) in
          absurd (none-some st (sym goes ∙ ap (λ (q : Proc). q.status) same ∙ is))
