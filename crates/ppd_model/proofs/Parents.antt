-- The control parent of an event is the latest test of its loop, else of the statement round it, else the call.
use Rattle.std.proofs.Common.{◌≡◌, ℕ, ◌+◌, ◌<◌, ◌≤◌, ℤ, Bool, true, false, List, [], ◌∷◌, ◌++◌, Option, Some, None, refl, ap, sym, subst, ◌∙◌, length, inl, inr, ◌⊎◌, arith}
use Rattle.std.specs.Prelude.{fold, slice_get, option_map, option_and_then}
use Rattle.std.proofs.lemmas.Bool.{cases_Bool, cases_eq, cases_lt, cond-false, cond-true, both_ways}
use Rattle.std.proofs.lemmas.List.Sums.{fold-append}
use Rattle.ppd_ast.specs.declared.plan.Plan.{Plan}
use Rattle.ppd_ast.specs.declared.program.Kind.{Kind}
use Rattle.ppd_ast.specs.declared.program.Kind.TheVariants.{While}
use Rattle.ppd_ast.specs.declared.program.Program.{Program}
use Rattle.ppd_ast.specs.declared.status.Status.{Status}
use Rattle.ppd_ast.specs.Lookups.{kind_of}
use Rattle.ppd_ast.specs.Numbered.{is_while, is_call}
use Rattle.ppd_sem.specs.declared.proc.Frame.{Frame}
use Rattle.ppd_sem.specs.declared.proc.Proc.{Proc}
use Rattle.ppd_sem.specs.declared.proc.Todo.{Todo}
use Rattle.ppd_sem.specs.Process.{act, need_of}
use Rattle.ppd_sem.proofs.NeedWords.{need_by_status, need_of_running}
use Rattle.ppd_sem.specs.Described.{is_event}
use Rattle.ppd_model.specs.declared.trace.EventId.{EventId}
use Rattle.ppd_model.specs.FullTrace.{Activation, Test, Tracing, event_of, latest, me_in, of_run, parent_at, parent_in, trace_step}
use Rattle.std.specs.Option.{option_or}
use Rattle.ppd_model.proofs.TraceWords.{of_outer}
use Rattle.ppd_model.specs.LocalTags.{AreOwn, HasTags, from_end}
use Rattle.ppd_model.specs.Parents.{GoesOn, IsBegunBy, IsFirst, IsActiveFromStart, IsLatestTest, IsOutermost, IsParent, IsUntested, Lasts, StandsIn, is_test}
use Rattle.ppd_model.specs.Story.{Story, Taken}
use Rattle.ppd_model.proofs.CallSteps.{begins_none}
use Rattle.ppd_model.proofs.FromEnd.{hit, miss}
use Rattle.ppd_model.proofs.LocalSteps.{tags_its_writes}
use Rattle.ppd_model.proofs.LocalTags.{begun_at, has_all}
use Rattle.ppd_model.proofs.TestSteps.{StepTests, View, acts_length, call_at, latest_at, no_view, step_tests, test_by, views, views_length}
use Rattle.ppd_model.proofs.Changes.{some}

pub none_some : {A : Type 0} {x : A} → None ≡ Some x → ⊥
none_some e = absurd (cc)

module _ (program : Program) (plan : Plan) (story : Story) (p : ℕ) where
  abbrev next : Tracing → Taken → Tracing
  next t x = trace_step program plan story p t x

  abbrev after_all : Tracing → List Taken → Tracing
  after_all t xs = fold (trace_step program plan story p) t xs

  has_next : (t : Tracing) (x : Taken) (xs : List Taken) → HasTags t → AreOwn program plan t.proc (x ∷ xs) → HasTags (next t x)
  has_next t x xs has own = (tags_its_writes program plan story p t x has own.0).has_tags

  -- the later ones of a process's own steps are its own
  pub own_from : (t : Tracing) (before after : List Taken) → AreOwn program plan t.proc (before ++ after) → AreOwn program plan (after_all t before).proc after
  own_from t [] after own = own
  own_from t (x ∷ xs) after own = own_from (next t x) xs after own.1

  pub own_to : (s : Proc) (before after : List Taken) → AreOwn program plan s (before ++ after) → AreOwn program plan s before
  own_to s [] after own = tt
  own_to s (x ∷ xs) after own = (own.0, own_to (act program plan s x.answer) xs after own.1)

  abbrev value_of : Tracing → Taken → Option ℤ
  value_of t x = (event_of program plan t.proc x t.proc.todo).value

  module _ (k : ℕ) where
    there : (s : ℕ) (proc : Proc) (xs : List Taken) → IsUntested program plan k s proc xs → k < length proc.frames
    there s proc [] h = h
    there s proc (x ∷ xs) h = h.0

    lasting : (proc : Proc) (xs : List Taken) → Lasts program plan k proc xs → k < length proc.frames
    lasting proc [] h = h
    lasting proc (x ∷ xs) h = h.0

    views_there : (t : Tracing) → HasTags t → k < length t.proc.frames → k < length (views t.activations)
    views_there t has lt = subst (λ n. k < n) (sym (views_length t.activations ∙ acts_length t has)) lt

    -- ---- a test that the trace keeps is the latest one

    module _ (s : ℕ) where
      abbrev Found : Tracing → List Taken → Test → Type 0
      Found t xs y = IsLatestTest program plan story p k s t xs y.event y.passed ⊎ ((latest_at (views t.activations) k s ≡ Some y) × IsUntested program plan k s t.proc xs)

      later_test : (t : Tracing) (x : Taken) (xs : List Taken) (event : EventId) (passed : Bool) → IsLatestTest program plan story p k s (next t x) xs event passed → IsLatestTest program plan story p k s t (x ∷ xs) event passed
      later_test t x xs event passed w = record {
        before = x ∷ w.before;
        taken = w.taken;
        after = w.after;
        steps_are = ap (λ ys. x ∷ ys) w.steps_are;
        tests = w.tests;
        event_is = w.event_is;
        passed_is = w.passed_is;
        steady = w.steady;
      }

      -- where the rest does not test, the first step decides
      first : (t : Tracing) (x : Taken) (xs : List Taken) (y : Test) → StepTests program plan p t x (views (next t x).activations) → k < length (views (next t x).activations)
          → latest_at (views (next t x).activations) k s ≡ Some y → IsUntested program plan k s (next t x).proc xs → Found t (x ∷ xs) y
      first t x xs y d lt e h = elim (cases_Bool (is_test program k s t.proc x)) [
        | inl is ↦
            let same : test_by s (me_in p t) (value_of t x) ≡ y = some (sym (d.newest_is k s is lt) ∙ e) in
            inl (record { before = []; taken = x; after = xs; steps_are = refl; tests = is; event_is = sym (ap (λ (z : Test). z.event) same); passed_is = sym (ap (λ (z : Test). z.passed) same); steady = h })
        | inr isnt ↦ elim (cases_lt k (length t.proc.frames)) [
          | inl old ↦ inr (sym (d.older_is k s isnt old lt) ∙ e, (old, (isnt, h)))
          | inr new ↦ absurd (none_some (sym (d.none_is k s new lt) ∙ e))
        ]
      ]

      found : (t : Tracing) (xs : List Taken) (y : Test) → HasTags t → AreOwn program plan t.proc xs → k < length (after_all t xs).proc.frames
          → latest_at (views (after_all t xs).activations) k s ≡ Some y → Found t xs y
      found t [] y has own lt e = inr (e, lt)
      found t (x ∷ xs) y has own lt e =
          let has_tags : HasTags (next t x) = has_next t x xs has own in
          elim (found (next t x) xs y has_tags own.1 lt e) [
            | inl w ↦ inl (later_test t x xs y.event y.passed w)
            | inr h ↦ first t x xs y (step_tests program plan story p t x has own.0) (views_there (next t x) has_tags (there s (next t x).proc xs h.1)) h.0 h.1
          ]

      -- ---- the latest test is what the trace keeps

      unchanged : (t : Tracing) (xs : List Taken) → HasTags t → AreOwn program plan t.proc xs → IsUntested program plan k s t.proc xs
          → latest_at (views (after_all t xs).activations) k s ≡ latest_at (views t.activations) k s
      unchanged t [] has own h = refl
      unchanged t (x ∷ xs) has own h =
          let has_tags : HasTags (next t x) = has_next t x xs has own in
          let d : StepTests program plan p t x (views (next t x).activations) = step_tests program plan story p t x has own.0 in
          unchanged (next t x) xs has_tags own.1 h.1.1 ∙ d.older_is k s h.1.0 h.0 (views_there (next t x) has_tags (there s (next t x).proc xs h.1.1))

      kept_test : (t : Tracing) (before : List Taken) (x : Taken) (after : List Taken) → HasTags t → AreOwn program plan t.proc (before ++ x ∷ after)
          → is_test program k s (after_all t before).proc x ≡ true → IsUntested program plan k s (next (after_all t before) x).proc after
          → latest_at (views (after_all (next (after_all t before) x) after).activations) k s ≡ Some (test_by s (me_in p (after_all t before)) (value_of (after_all t before) x))
      kept_test t before x after has own is h =
          let u : Tracing = after_all t before in
          let mine : AreOwn program plan u.proc (x ∷ after) = own_from t before (x ∷ after) own in
          let has_u : HasTags u = has_all program plan story p t before has (own_to t.proc before (x ∷ after) own) in
          let has_tags : HasTags (next u x) = has_next u x after has_u mine in
          let d : StepTests program plan p u x (views (next u x).activations) = step_tests program plan story p u x has_u mine.0 in
          unchanged (next u x) after has_tags mine.1 h ∙ d.newest_is k s is (views_there (next u x) has_tags (there s (next u x).proc after h))

      kept : (t : Tracing) (xs : List Taken) (event : EventId) (passed : Bool) → HasTags t → AreOwn program plan t.proc xs → IsLatestTest program plan story p k s t xs event passed
          → latest_at (views (after_all t xs).activations) k s ≡ Some (record { stmt = s; event = event; passed = passed })
      kept t xs event passed has own w =
          let own2 : AreOwn program plan t.proc (w.before ++ w.taken ∷ w.after) = subst (λ ys. AreOwn program plan t.proc ys) w.steps_are own in
          ap (λ ys. latest_at (views (after_all t ys).activations) k s) w.steps_are
          ∙ ap (λ (u : Tracing). latest_at (views u.activations) k s) (fold-append (trace_step program plan story p) t w.before (w.taken ∷ w.after))
          ∙ kept_test t w.before w.taken w.after has own2 w.tests w.steady
          ∙ ap (λ b. Some (record { stmt = s; event = me_in p (after_all t w.before); passed = b })) (sym w.passed_is)
          ∙ ap (λ i. Some (record { stmt = s; event = i; passed = passed })) (sym w.event_is)

    -- ---- the call

    abbrev Begun : Tracing → List Taken → Option EventId → Type 0
    Begun t xs call = IsBegunBy program plan story p k t xs call ⊎ ((call ≡ call_at (views t.activations) k) × Lasts program plan k t.proc xs)

    later_begun : (t : Tracing) (x : Taken) (xs : List Taken) (call : Option EventId) → IsBegunBy program plan story p k (next t x) xs call → IsBegunBy program plan story p k t (x ∷ xs) call
    later_begun t x xs call w = record {
      before = x ∷ w.before;
      taken = w.taken;
      after = w.after;
      steps_are = ap (λ ys. x ∷ ys) w.steps_are;
      finishes = w.finishes;
      calls = w.calls;
      is_new = w.is_new;
      call_is = w.call_is;
      lasts = w.lasts;
    }

    is_calling : (t : Tracing) (x : Taken) → HasTags t → is_event x.need ≡ true → length t.proc.frames ≤ k → k < length (views (next t x).activations)
        → is_call (kind_of program (event_of program plan t.proc x t.proc.todo).stmt) ≡ true
    is_calling t x has is new lt = elim (cases_Bool (is_call (kind_of program (event_of program plan t.proc x t.proc.todo).stmt))) [
      | inl calls ↦ calls
      | inr isnt ↦
          let le : length (views (next t x).activations) ≤ length (views t.activations) = begins_none program plan story p t x is isnt in
          let n : length (views t.activations) ≡ length t.proc.frames = views_length t.activations ∙ acts_length t has in
          absurd (omega arith)
    ]

    first_begun : (t : Tracing) (x : Taken) (xs : List Taken) (call : Option EventId) → HasTags t → StepTests program plan p t x (views (next t x).activations) → k < length (views (next t x).activations)
        → call ≡ call_at (views (next t x).activations) k → Lasts program plan k (next t x).proc xs → Begun t (x ∷ xs) call
    first_begun t x xs call has d lt e h = elim (cases_lt k (length t.proc.frames)) [
      | inl old ↦ inr (e ∙ d.old_call k old lt, (old, h))
      | inr new ↦
          let by : (is_event x.need ≡ true) × (call_at (views (next t x).activations) k ≡ Some (me_in p t)) = d.new_call k new lt in
          inl (record { before = []; taken = x; after = xs; steps_are = refl; finishes = by.0; calls = is_calling t x has by.0 new lt; is_new = new; call_is = e ∙ by.1; lasts = h })
    ]

    begun : (t : Tracing) (xs : List Taken) → HasTags t → AreOwn program plan t.proc xs → k < length (after_all t xs).proc.frames → Begun t xs (call_at (views (after_all t xs).activations) k)
    begun t [] has own lt = inr (refl, lt)
    begun t (x ∷ xs) has own lt =
        let has_tags : HasTags (next t x) = has_next t x xs has own in
        elim (begun (next t x) xs has_tags own.1 lt) [
          | inl w ↦ inl (later_begun t x xs (call_at (views (after_all t (x ∷ xs)).activations) k) w)
          | inr h ↦ first_begun t x xs (call_at (views (after_all t (x ∷ xs)).activations) k) has (step_tests program plan story p t x has own.0)
              (views_there (next t x) has_tags (lasting (next t x).proc xs h.1)) h.0 h.1
        ]

-- ---- the start

begun_views : (frames : List Frame) (k : ℕ) → from_end no_view (views (begun_at frames)) k ≡ no_view
begun_views [] k = refl
begun_views (f ∷ fs) k = elim (cases_eq k (length (views (begun_at fs)))) [
  | inl is ↦ hit no_view (None, []) (views (begun_at fs)) k is
  | inr n ↦ miss no_view (None, []) (views (begun_at fs)) k n ∙ begun_views fs k
]

-- ---- the cases of the definition

-- a run of the loop goes on
record Runs (kind : Kind) (o : Option Test) : Type 0 where
  loops : is_while kind ≡ true
  test : Test
  test_is : o ≡ Some test
  passed : test.passed ≡ true
  run_is : of_run kind o ≡ Some test.event

-- or none does
record Starts (kind : Kind) (o : Option Test) : Type 0 where
  never : is_while kind ≡ true → (y : Test) → o ≡ Some y → y.passed ≡ true → ⊥
  run_is : of_run kind o ≡ None

by_passed : (e : ℕ) (body : List ℕ) (y : Test) (b : Bool) → y.passed ≡ b → Runs (While e body) (Some y) ⊎ Starts (While e body) (Some y)
by_passed e body y true is = inl (record { loops = refl; test = y; test_is = refl; passed = is; run_is = cond-true y.passed (Some y.event) None is })
by_passed e body y false is = inr (record {
  never = λ w z same passed. both_ways y.passed is (ap (λ (x : Test). x.passed) (some same) ∙ passed);
  run_is = cond-false y.passed (Some y.event) None is;
})

by_kind : (kind : Kind) (o : Option Test) → Runs kind o ⊎ Starts kind o
by_kind (While e body) None = inr (record { never = λ w y is passed. none_some is; run_is = refl })
by_kind (While e body) (Some y) = by_passed e body y y.passed refl
by_kind kind o = inr (record { never = λ w y is passed. both_ways false refl w; run_is = refl })

-- the statement stands in a tested one
record Inside (o : Option ℕ) (tests : List Test) (call : Option EventId) : Type 0 where
  outer : ℕ
  outer_is : o ≡ Some outer
  test : Test
  test_is : latest outer tests ≡ Some test
  parent_is : option_or (of_outer o tests) call ≡ Some test.event

-- or in none
record Outside (o : Option ℕ) (tests : List Test) (call : Option EventId) : Type 0 where
  untested : (outer : ℕ) → o ≡ Some outer → latest outer tests ≡ None
  parent_is : option_or (of_outer o tests) call ≡ call

by_latest : (r : ℕ) (tests : List Test) (call : Option EventId) (q : Option Test) → latest r tests ≡ q → Inside (Some r) tests call ⊎ Outside (Some r) tests call
by_latest r tests call None e = inr (record {
  untested = λ outer is. ap (λ i. latest i tests) (sym (some is)) ∙ e;
  parent_is = ap (λ (o : Option Test). option_or (option_map (λ (x : Test). x.event) o) call) e;
})
by_latest r tests call (Some y) e = inl (record {
  outer = r;
  outer_is = refl;
  test = y;
  test_is = e;
  parent_is = ap (λ (o : Option Test). option_or (option_map (λ (x : Test). x.event) o) call) e;
})

by_outer : (o : Option ℕ) (tests : List Test) (call : Option EventId) → Inside o tests call ⊎ Outside o tests call
by_outer None tests call = inr (record { untested = λ outer is. absurd (none_some is); parent_is = refl })
by_outer (Some r) tests call = by_latest r tests call (latest r tests) refl

-- ---- the top activation

record Top (acts : List Activation) (k : ℕ) : Type 0 where
  top : Activation
  below : List Activation
  acts_are : acts ≡ top ∷ below
  tests_are : (s : ℕ) → latest_at (views acts) k s ≡ latest s top.tests
  call_is : call_at (views acts) k ≡ top.call

top_at : (acts : List Activation) (k : ℕ) → k + 1 ≡ length acts → Top acts k
top_at [] k e = absurd (omega arith)
top_at (a ∷ as') k e =
    let n : length (views as') ≡ length as' = views_length as' in
    let is : from_end no_view (views (a ∷ as')) k ≡ (a.call, a.tests) = hit no_view (a.call, a.tests) (views as') k (omega arith) in
    record {
      top = a;
      below = as';
      acts_are = refl;
      tests_are = λ s. ap (λ (v : View). latest s v.1) is;
      call_is = ap (λ (v : View). v.0) is;
    }

-- the event of a step is of the head
abbrev HeadHasParent : Program → Plan → Proc → Taken → List Todo → Type 0
HeadHasParent program plan proc x todo = (a : Activation) (as' : List Activation) → parent_at program (a ∷ as') todo ≡ parent_in program (event_of program plan proc x todo).stmt a

of_head : (program : Program) (plan : Plan) (proc : Proc) (x : Taken) (todo : List Todo) → is_event (need_of_running program plan todo proc) ≡ true → HeadHasParent program plan proc x todo
of_head program plan proc x [] e = absurd (cc)
of_head program plan proc x (t ∷ ts) e = λ a as'. refl

of_status : (program : Program) (plan : Plan) (proc : Proc) (x : Taken) (status : Option Status) → is_event (need_by_status program plan status proc) ≡ true → HeadHasParent program plan proc x proc.todo
of_status program plan proc x None e = of_head program plan proc x proc.todo e
of_status program plan proc x (Some st) e = absurd (cc)

-- ---- the parent of an event after these steps

module _ (program : Program) (plan : Plan) (story : Story) (p : ℕ) (frames : List Frame) (t : Tracing) (xs : List Taken) (k : ℕ) (begun_is : t.activations ≡ begun_at frames) (has : HasTags t) (own : AreOwn program plan t.proc xs) where
  abbrev u : Tracing
  u = fold (trace_step program plan story p) t xs

  module _ (lt : k < length u.proc.frames) where
    none_at : (s : ℕ) → latest_at (views t.activations) k s ≡ None
    none_at s = ap (λ acts. latest_at (views acts) k s) begun_is ∙ ap (λ (v : View). latest s v.1) (begun_views frames k)

    pub to_latest : (s : ℕ) (y : Test) → latest_at (views u.activations) k s ≡ Some y → IsLatestTest program plan story p k s t xs y.event y.passed
    to_latest s y e = elim (found program plan story p k s t xs y has own lt e) [
      | inl w ↦ w
      | inr h ↦ absurd (none_some (sym (none_at s) ∙ h.0))
    ]

    from_latest : (s : ℕ) (event : EventId) (passed : Bool) → IsLatestTest program plan story p k s t xs event passed → latest_at (views u.activations) k s ≡ Some (record { stmt = s; event = event; passed = passed })
    from_latest s event passed w = kept program plan story p k s t xs event passed has own w

    to_call : IsBegunBy program plan story p k t xs (call_at (views u.activations) k) ⊎ IsActiveFromStart program plan k t xs (call_at (views u.activations) k)
    to_call = elim (begun program plan story p k t xs has own lt) [
      | inl w ↦ inl w
      | inr h ↦ inr (record { call_is = h.0 ∙ ap (λ acts. call_at (views acts) k) begun_is ∙ ap (λ (v : View). v.0) (begun_views frames k); lasts = h.1 })
    ]

    module _ (s : ℕ) (a : Activation) (tests_are : (q : ℕ) → latest_at (views u.activations) k q ≡ latest q a.tests) (call_is : call_at (views u.activations) k ≡ a.call) where
      never : Starts (kind_of program s) (latest s a.tests) → IsFirst program plan story p k s t xs
      never h w event l = h.never w (record { stmt = s; event = event; passed = true }) (sym (tests_are s) ∙ from_latest s event true l) refl

      goes_on : Runs (kind_of program s) (latest s a.tests) → GoesOn program plan story p k s t xs (parent_in program s a)
      goes_on r = record {
        loops = r.loops;
        event = r.test.event;
        latest = subst (λ b. IsLatestTest program plan story p k s t xs r.test.event b) r.passed (to_latest s r.test (tests_are s ∙ r.test_is));
        parent_is = ap (λ o. option_or o (option_or (of_outer (option_and_then (λ x. x.parent) (slice_get program.stmts s)) a.tests) a.call)) r.run_is;
      }

      -- where no run goes on
      parent_is : Starts (kind_of program s) (latest s a.tests) → parent_in program s a ≡ option_or (of_outer (option_and_then (λ x. x.parent) (slice_get program.stmts s)) a.tests) a.call
      parent_is h = ap (λ o. option_or o (option_or (of_outer (option_and_then (λ x. x.parent) (slice_get program.stmts s)) a.tests) a.call)) h.run_is

      stands_in : Starts (kind_of program s) (latest s a.tests) → Inside (option_and_then (λ x. x.parent) (slice_get program.stmts s)) a.tests a.call → StandsIn program plan story p k s t xs (parent_in program s a)
      stands_in h i = record {
        first = never h;
        outer = i.outer;
        outer_is = i.outer_is;
        event = i.test.event;
        passed = i.test.passed;
        latest = to_latest i.outer i.test (tests_are i.outer ∙ i.test_is);
        parent_is = parent_is h ∙ i.parent_is;
      }

      outermost : Starts (kind_of program s) (latest s a.tests) → Outside (option_and_then (λ x. x.parent) (slice_get program.stmts s)) a.tests a.call → IsOutermost program plan story p k s t xs (parent_in program s a)
      outermost h o = record {
        first = never h;
        untested = λ outer is event passed l. none_some (sym (tests_are outer ∙ o.untested outer is) ∙ from_latest outer event passed l);
        call = subst (λ c. IsBegunBy program plan story p k t xs c ⊎ IsActiveFromStart program plan k t xs c) (call_is ∙ sym (parent_is h ∙ o.parent_is)) to_call;
      }

      is_parent : IsParent program plan story p k s t xs (parent_in program s a)
      is_parent = elim (by_kind (kind_of program s) (latest s a.tests)) [
        | inl r ↦ inl (goes_on r)
        | inr h ↦ elim (by_outer (option_and_then (λ x. x.parent) (slice_get program.stmts s)) a.tests a.call) [
          | inl i ↦ inr (inl (stands_in h i))
          | inr o ↦ inr (inr (outermost h o))
        ]
      ]

  pub parent_of : (x : Taken) → x.need ≡ need_of program plan u.proc → is_event x.need ≡ true → k + 1 ≡ length u.proc.frames
      → IsParent program plan story p k (event_of program plan u.proc x u.proc.todo).stmt t xs (parent_at program u.activations u.proc.todo)
  parent_of x mine is e =
      let has_u : HasTags u = has_all program plan story p t xs has own in
      let top : Top u.activations k = top_at u.activations k (e ∙ sym (acts_length u has_u)) in
      let head : HeadHasParent program plan u.proc x u.proc.todo = of_status program plan u.proc x u.proc.status (ap is_event (sym mine) ∙ is) in
      let parent : parent_at program u.activations u.proc.todo ≡ parent_in program (event_of program plan u.proc x u.proc.todo).stmt top.top =
      ap (λ acts. parent_at program acts u.proc.todo) top.acts_are ∙ head top.top top.below in
      subst (λ o. IsParent program plan story p k (event_of program plan u.proc x u.proc.todo).stmt t xs o) (sym parent)
      (is_parent (omega arith) (event_of program plan u.proc x u.proc.todo).stmt top.top top.tests_are top.call_is)
