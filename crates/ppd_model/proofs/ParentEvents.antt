-- Each event of a trace is that of a step of its process, and has its parent from the steps before.
use Rattle.ppd_model.specs.Setting.{Setting}
use Rattle.ppd_ast.specs.declared.plan.Plan.{Plan}
use Rattle.ppd_ast.specs.declared.program.Program.{Program}
use Rattle.ppd_model.proofs.Changes.{some}
use Rattle.ppd_model.proofs.LocalTags.{has_begun, own_steps_told}
use Rattle.ppd_model.proofs.Parents.{none_some, own_from, own_to, parent_of}
use Rattle.ppd_model.proofs.TraceWords.{events_from}
use Rattle.ppd_model.specs.FullTrace.{Tracing, begun_tracing, event_of, full_trace, trace_by, trace_step, traced_by, tracing_of}
use Rattle.ppd_model.specs.LocalTags.{AreOwn, HasTags}
use Rattle.ppd_model.specs.Parents.{HasParent, IsParent, ParentsAreLatestTests}
use Rattle.ppd_model.specs.Story.{Story, Taken, story}
use Rattle.ppd_model.specs.declared.trace.TracedEvent.{TracedEvent}
use Rattle.ppd_sem.specs.Described.{is_event}
use Rattle.ppd_sem.specs.Process.{need_of, started}
use Rattle.ppd_sem.specs.declared.proc.Need.{Need}
use Rattle.ppd_sem.specs.declared.proc.Need.TheVariants.{Budget, Enter, Read, Stopped}
use Rattle.std.proofs.Common.{List, Some, [], ap, arith, false, inl, inr, length, refl, subst, suc, sym, true, zero, ℕ, ◌++◌, ◌+◌, ◌∙◌, ◌∷◌, ◌≡◌, ◌⊎◌}
use Rattle.std.proofs.lemmas.Bool.{cases_Bool}
use Rattle.std.specs.Prelude.{fold, get_or, slice_get}

at_end : {A : Type 0} (xs : List A) (y : A) (n : ℕ) (z : A) → slice_get (xs ++ y ∷ []) n ≡ Some z → (slice_get xs n ≡ Some z) ⊎ ((n ≡ length xs) × (z ≡ y))
at_end [] y zero z e = inr (refl, sym (some e))
at_end [] y (suc n) z e = absurd (none_some e)
at_end (x ∷ xs) y zero z e = inl e
at_end (x ∷ xs) y (suc n) z e = elim (at_end xs y n z e) [
  | inl h ↦ inl h
  | inr h ↦ inr (ap suc h.0, h.1)
]

module _ (program : Program) (plan : Plan) (story : Story) (p : ℕ) where
  abbrev next : Tracing → Taken → Tracing
  next t x = trace_step program plan story p t x

  abbrev after_all : Tracing → List Taken → Tracing
  after_all t xs = fold (trace_step program plan story p) t xs

  abbrev event_at : Tracing → Taken → TracedEvent
  event_at t x = traced_by program story x t (event_of program plan t.proc x t.proc.todo)

  more_events : (x : Taken) (n : Need) (t : Tracing) → is_event n ≡ true → (trace_by program plan story p x n t).events ≡ t.events ++ event_at t x ∷ []
  more_events x (Read c) t e = absurd (cc)
  more_events x (Enter b u) t e = absurd (cc)
  more_events x Budget t e = absurd (cc)
  more_events x Stopped t e = absurd (cc)
  more_events x n t e = refl

  same_events : (x : Taken) (n : Need) (t : Tracing) → is_event n ≡ false → (trace_by program plan story p x n t).events ≡ t.events
  same_events x (Read c) t e = refl
  same_events x (Enter b u) t e = refl
  same_events x Budget t e = refl
  same_events x Stopped t e = refl
  same_events x n t e = absurd (cc)

  -- the event is of one of these steps
  record IsOf (t : Tracing) (xs : List Taken) (n : ℕ) (e : TracedEvent) : Type 0 where
    before : List Taken
    taken : Taken
    after : List Taken
    steps_are : xs ≡ before ++ taken ∷ after
    finishes : is_event taken.need ≡ true
    number_is : n ≡ length (after_all t before).events
    event_is : e ≡ event_at (after_all t before) taken

  later : (t : Tracing) (x : Taken) (xs : List Taken) (n : ℕ) (e : TracedEvent) → IsOf (next t x) xs n e → IsOf t (x ∷ xs) n e
  later t x xs n e w = record {
    before = x ∷ w.before;
    taken = w.taken;
    after = w.after;
    steps_are = ap (λ ys. x ∷ ys) w.steps_are;
    finishes = w.finishes;
    number_is = w.number_is;
    event_is = w.event_is;
  }

  first : (t : Tracing) (x : Taken) (xs : List Taken) (n : ℕ) (e : TracedEvent) → slice_get (next t x).events n ≡ Some e → (slice_get t.events n ≡ Some e) ⊎ IsOf t (x ∷ xs) n e
  first t x xs n e is = elim (cases_Bool (is_event x.need)) [
    | inl yes_event ↦ elim (at_end t.events (event_at t x) n e (sym (ap (λ es. slice_get es n) (more_events x x.need t yes_event)) ∙ is)) [
      | inl old ↦ inl old
      | inr new ↦ inr (record { before = []; taken = x; after = xs; steps_are = refl; finishes = yes_event; number_is = new.0; event_is = new.1 })
    ]
    | inr none ↦ inl (sym (ap (λ es. slice_get es n) (same_events x x.need t none)) ∙ is)
  ]

  found : (t : Tracing) (xs : List Taken) (n : ℕ) (e : TracedEvent) → slice_get (after_all t xs).events n ≡ Some e → (slice_get t.events n ≡ Some e) ⊎ IsOf t xs n e
  found t [] n e is = inl is
  found t (x ∷ xs) n e is = elim (found (next t x) xs n e is) [
    | inl old ↦ first t x xs n e old
    | inr w ↦ inr (later t x xs n e w)
  ]

  -- ---- the parents of the events of a process's own steps

  module _ (budget : ℕ) (steps : List Taken) (own : AreOwn program plan (started program plan p budget) steps) where
    abbrev start : Tracing
    start = begun_tracing (started program plan p budget)

    has_start : HasTags start
    has_start = has_begun (started program plan p budget).frames

    parent_is : (n : ℕ) (e : TracedEvent) → IsOf start steps n e → HasParent program plan story p start steps n e
    parent_is n e w =
        let u : Tracing = after_all start w.before in
        let mine : AreOwn program plan start.proc (w.before ++ w.taken ∷ w.after) = subst (λ xs. AreOwn program plan start.proc xs) w.steps_are own in
        let own_before : AreOwn program plan start.proc w.before = own_to program plan story p start.proc w.before (w.taken ∷ w.after) mine in
        let own_taken : w.taken.need ≡ need_of program plan u.proc = (own_from program plan story p start w.before (w.taken ∷ w.after) mine).0 in
        let parents : (k : ℕ) → k + 1 ≡ length u.proc.frames → IsParent program plan story p k (event_at u w.taken).event.stmt start w.before (event_at u w.taken).parent =
        λ k top. parent_of program plan story p (started program plan p budget).frames start w.before k refl has_start own_before w.taken own_taken w.finishes top in
        record {
          before = w.before;
          taken = w.taken;
          after = w.after;
          steps_are = w.steps_are;
          finishes = w.finishes;
          number_is = w.number_is;
          event_is = ap (λ (x : TracedEvent). x.event) w.event_is;
          parent = subst (λ (x : TracedEvent). (k : ℕ) → k + 1 ≡ length u.proc.frames → IsParent program plan story p k x.event.stmt start w.before x.parent) (sym w.event_is) parents;
        }

    has_parent : (n : ℕ) (e : TracedEvent) → slice_get (after_all start steps).events n ≡ Some e → HasParent program plan story p start steps n e
    has_parent n e is = elim (found start steps n e is) [
      | inl old ↦ absurd (none_some old)
      | inr w ↦ parent_is n e w
    ]

-- the events of a process are those of its own steps
pub events_at : (setting : Setting) (s : Story) (p i : ℕ) (steps : List (List Taken)) → get_or (events_from setting s p steps) i [] ≡ (tracing_of setting s (p + i) (get_or steps i [])).events
events_at setting s p i [] = refl
events_at setting s p zero (xs ∷ rest) = ap (λ n. (tracing_of setting s n xs).events) (let e : p ≡ p + 0 = omega arith in e)
events_at setting s p (suc i) (xs ∷ rest) =
    events_at setting s (p + 1) i rest ∙ ap (λ n. (tracing_of setting s n (get_or rest i [])).events) (let e : p + 1 + i ≡ p + suc i = omega arith in e)

pub parents_found : ParentsAreLatestTests
parents_found setting h p n e is =
    let s : Story = story setting h in
    let events : get_or (full_trace setting (story setting h)).events p [] ≡ (tracing_of setting s p (get_or s.steps p [])).events =
    events_at setting s 0 p s.steps ∙ ap (λ m. (tracing_of setting s m (get_or s.steps p [])).events) (let z : 0 + p ≡ p = omega arith in z) in
    has_parent setting.program setting.plan s p setting.budget (get_or s.steps p []) (own_steps_told setting h p) n e (sym (ap (λ es. slice_get es n) events) ∙ is)
