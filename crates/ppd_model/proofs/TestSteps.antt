-- One step of a process: what it does to the latest tests and to the calls of the activations.
use Rattle.std.proofs.Common.{◌≡◌, ℕ, zero, suc, ◌+◌, ◌<◌, ◌≤◌, ℤ, Bool, true, false, ◌&&◌, List, [], ◌∷◌, Option, Some, None, Ok, refl, ap, sym, subst, ◌∙◌, length, map, inl, inr, arith}
use Rattle.std.specs.Prelude.{nat_eq, drop}
use Rattle.std.proofs.lemmas.Bool.{and_cases, and_parts, cases_Bool, cases_eq, cond-false, cond-true, eq-eqb, eqb-true, both_ways}
use Rattle.std.proofs.lemmas.List.{length-map}
use Rattle.ppd_ast.specs.declared.plan.Plan.{Plan}
use Rattle.ppd_ast.specs.declared.program.Kind.{Kind}
use Rattle.ppd_ast.specs.declared.program.Kind.TheVariants.{If, While}
use Rattle.ppd_ast.specs.declared.program.Program.{Program}
use Rattle.ppd_ast.specs.declared.status.Status.{Status}
use Rattle.ppd_ast.specs.Lookups.{kind_of}
use Rattle.ppd_sem.specs.declared.event.Event.{Event}
use Rattle.ppd_sem.specs.declared.proc.Need.{Need}
use Rattle.ppd_sem.specs.declared.proc.Need.TheVariants.{Read, Enter, Trap, Budget, Stopped}
use Rattle.ppd_sem.specs.declared.proc.Proc.{Proc}
use Rattle.ppd_sem.specs.declared.proc.Todo.{Todo}
use Rattle.ppd_sem.specs.Asked.{Asked}
use Rattle.ppd_sem.specs.Deed.{Deed, set_local, clear, invoke, back, receive}
use Rattle.ppd_sem.specs.Process.{head_deed, need_of}
use Rattle.ppd_sem.proofs.NeedWords.{need_by_status, need_of_running}
use Rattle.ppd_sem.specs.Described.{is_event}
use Rattle.ppd_model.specs.declared.trace.EventId.{EventId}
use Rattle.ppd_model.specs.FullTrace.{Activation, Tag, Test, Tracing, all_tagged, event_of, is_passed, latest, me_in, tagged, tagged_after, tagged_by, tagged_into, tests_after, trace_by, trace_step, with_event, with_test}
use Rattle.ppd_model.proofs.TraceWords.{tagged_at}
use Rattle.ppd_model.specs.LocalTags.{HasTags, from_end}
use Rattle.ppd_model.specs.Parents.{is_choice, is_test, is_test_at}
use Rattle.ppd_model.specs.Story.{Story, Taken}
use Rattle.ppd_model.proofs.FromEnd.{hit, miss}
use Rattle.ppd_model.proofs.LocalDeeds.{lengths}

-- ---- lists by the numbers of their elements, counted from the end

-- what was there and still is stays as it was, and what is new is this
pub record Shift {A : Type 0} (none : A) (old new : List A) (fresh : A) : Type 0 where
  pub kept : (k : ℕ) → k < length old → k < length new → from_end none new k ≡ from_end none old k
  pub fresh_is : (k : ℕ) → length old ≤ k → k < length new → from_end none new k ≡ fresh

unmoved : {A : Type 0} (none : A) (xs : List A) (fresh : A) → Shift none xs xs fresh
unmoved none xs fresh = record { kept = λ k lt lt2. refl; fresh_is = λ k le lt. absurd (omega arith) }

more : {A : Type 0} (none x : A) (xs : List A) → Shift none xs (x ∷ xs) x
more none x xs = record {
  kept = λ k lt lt2. miss none x xs k (λ e. omega arith);
  fresh_is = λ k le lt. hit none x xs k (omega arith);
}

fewer : {A : Type 0} (none x : A) (xs : List A) (fresh : A) → Shift none (x ∷ xs) xs fresh
fewer none x xs fresh = record {
  kept = λ k lt lt2. sym (miss none x xs k (λ e. omega arith));
  fresh_is = λ k le lt. absurd (omega arith);
}

-- ---- the calls and tests of activations

abbrev pub View : Type 0
View = Option EventId × List Test

abbrev pub no_view : View
no_view = (None, [])

abbrev pub views : List Activation → List View
views xs = map (λ x. (x.call, x.tests)) xs

abbrev pub latest_at : List View → (k s : ℕ) → Option Test
latest_at vs k s = latest s (from_end no_view vs k).1

abbrev pub call_at : List View → ℕ → Option EventId
call_at vs k = (from_end no_view vs k).0

pub tagged_views : (c : ℕ) (me : Tag) (xs : List Activation) → views (tagged c me xs) ≡ views xs
tagged_views c me [] = refl
tagged_views c me (x ∷ xs) = refl

pub all_tagged_views : (base n : ℕ) (me : Tag) (xs : List Activation) → views (all_tagged base n me xs) ≡ views xs
all_tagged_views base zero me xs = refl
all_tagged_views base (suc n) me xs = tagged_views (base + n) me (all_tagged base n me xs) ∙ all_tagged_views base n me xs

pub into_views : (into : Option ℕ) (value : Option ℤ) (me : Tag) (xs : List Activation) → views (tagged_into into value me xs) ≡ views xs
into_views None value me xs = refl
into_views (Some c) None me xs = refl
into_views (Some c) (Some v) me xs = tagged_views c me xs

abbrev Moved : List Activation → List View → Tag → Type 0
Moved xs new me = Shift no_view (views xs) new (me, [])

still : (xs ys : List Activation) (me : Tag) → views ys ≡ views xs → Moved xs (views ys) me
still xs ys me e = subst (λ vs. Shift no_view (views xs) vs (me, [])) (sym e) (unmoved no_view (views xs) (me, []))

dropped : (into : Option ℕ) (value : Option ℤ) (me : Tag) (xs : List Activation) → Moved xs (views (tagged_into into value me (drop 1 xs))) me
dropped into value me [] = still [] (tagged_into into value me []) me (into_views into value me [])
dropped into value me (x ∷ xs) =
    subst (λ vs. Shift no_view (views (x ∷ xs)) vs (me, [])) (sym (into_views into value me xs)) (fewer no_view (x.call, x.tests) (views xs) (me, []))

by_deed : (program : Program) (s : Proc) (me : Tag) (asked : Asked Deed) (xs : List Activation) → Moved xs (views (tagged_by program s me asked xs)) me
by_deed program s me (Ok (set_local c v, left)) xs = still xs (tagged c me xs) me (tagged_views c me xs)
by_deed program s me (Ok (clear base len, left)) xs = still xs (all_tagged base len me xs) me (all_tagged_views base len me xs)
by_deed program s me (Ok (invoke f values into, left)) xs = more no_view (me, []) (views xs)
by_deed program s me (Ok (back value, left)) xs = dropped _ value me xs
by_deed program s me (Ok (receive chan into, left)) xs = still xs (tagged into me xs) me (tagged_views into me xs)
by_deed program s me asked xs = unmoved no_view (views xs) (me, [])

by_todo : (program : Program) (s : Proc) (me : Tag) (todo : List Todo) (xs : List Activation) → Moved xs (views (tagged_at program s me todo xs)) me
by_todo program s me [] xs = unmoved no_view (views xs) (me, [])
by_todo program s me (t ∷ ts) xs = by_deed program s me (head_deed program t s) xs

by_need : (program : Program) (s : Proc) (me : Tag) (n : Need) (xs : List Activation) → Moved xs (views (tagged_after program s me n xs)) me
by_need program s me (Trap t) xs = unmoved no_view (views xs) (me, [])
by_need program s me n xs = by_todo program s me s.todo xs

-- ---- a test

abbrev pub test_by : ℕ → EventId → Option ℤ → Test
test_by s me value = record { stmt = s; event = me; passed = is_passed value }

pub newest : (k : Kind) (q s : ℕ) (me : EventId) (value : Option ℤ) (tests : List Test) → (nat_eq q s && is_choice k) ≡ true → latest s (tests_after k q me value tests) ≡ Some (test_by s me value)
newest (If e first second) q s me value tests is =
    let both : (nat_eq q s ≡ true) × (true ≡ true) = and_parts (nat_eq q s) true is in
    cond-true (nat_eq q s) (Some (test_by q me value)) (latest s tests) both.0 ∙ ap (λ j. Some (test_by j me value)) (eqb-true q s both.0)
newest (While e body) q s me value tests is =
    let both : (nat_eq q s ≡ true) × (true ≡ true) = and_parts (nat_eq q s) true is in
    cond-true (nat_eq q s) (Some (test_by q me value)) (latest s tests) both.0 ∙ ap (λ j. Some (test_by j me value)) (eqb-true q s both.0)
newest k q s me value tests is =
    let both : (nat_eq q s ≡ true) × (false ≡ true) = and_parts (nat_eq q s) false is in
    absurd (both_ways false refl both.1)

other : (q s : ℕ) → (nat_eq q s && true) ≡ false → nat_eq q s ≡ false
other q s e = elim (and_cases (nat_eq q s) true e) [ inl isnt ↦ isnt | inr h ↦ absurd (both_ways true h refl) ]

pub older : (k : Kind) (q s : ℕ) (me : EventId) (value : Option ℤ) (tests : List Test) → (nat_eq q s && is_choice k) ≡ false → latest s (tests_after k q me value tests) ≡ latest s tests
older (If e first second) q s me value tests isnt = cond-false (nat_eq q s) (Some (test_by q me value)) (latest s tests) (other q s isnt)
older (While e body) q s me value tests isnt = cond-false (nat_eq q s) (Some (test_by q me value)) (latest s tests) (other q s isnt)
older k q s me value tests isnt = refl

-- the event is of statement s, an `If` or a `While`
abbrev of_test : Program → Event → ℕ → Bool
of_test program e s = nat_eq e.stmt s && is_choice (kind_of program e.stmt)

-- the latest tests and the calls after an event
record Tested (program : Program) (acts : List Activation) (me : EventId) (e : Event) (now : List View) : Type 0 where
  newest_is : (k s : ℕ) → k + 1 ≡ length acts → of_test program e s ≡ true → k < length now → latest_at now k s ≡ Some (test_by s me e.value)
  older_is : (k s : ℕ) → (nat_eq (k + 1) (length acts) && of_test program e s) ≡ false → k < length acts → k < length now → latest_at now k s ≡ latest_at (views acts) k s
  none_is : (k s : ℕ) → length acts ≤ k → k < length now → latest_at now k s ≡ None
  old_call : (k : ℕ) → k < length acts → k < length now → call_at now k ≡ call_at (views acts) k
  new_call : (k : ℕ) → length acts ≤ k → k < length now → call_at now k ≡ Some me

pub views_length : (xs : List Activation) → length (views xs) ≡ length xs
views_length xs = length-map xs (λ x. (x.call, x.tests))

tested : (program : Program) (acts : List Activation) (me : EventId) (e : Event) (now : List View) → Shift no_view (views (with_test program me e acts)) now (Some me, []) → Tested program acts me e now
tested program [] me e now h = record {
  newest_is = λ k s l is lt. absurd (omega arith);
  older_is = λ k s isnt lt lt2. absurd (omega arith);
  none_is = λ k s le lt. ap (λ (v : View). latest s v.1) (h.fresh_is k (omega arith) lt);
  old_call = λ k lt lt2. absurd (omega arith);
  new_call = λ k le lt. ap (λ (v : View). v.0) (h.fresh_is k (omega arith) lt);
}
tested program (a ∷ as') me e now h =
    let top : View = (a.call, tests_after (kind_of program e.stmt) e.stmt me e.value a.tests) in
    let below : List View = views as' in
    let n : length below ≡ length as' = views_length as' in
    record {
      newest_is = λ k s l is lt.
          ap (λ (v : View). latest s v.1) (h.kept k (omega arith) lt ∙ hit no_view top below k (omega arith))
          ∙ newest (kind_of program e.stmt) e.stmt s me e.value a.tests is;
      older_is = λ k s isnt lt lt2. ap (λ (v : View). latest s v.1) (h.kept k (omega arith) lt2) ∙ before k s isnt lt;
      none_is = λ k s le lt. ap (λ (v : View). latest s v.1) (h.fresh_is k (omega arith) lt);
      old_call = λ k lt lt2. ap (λ (v : View). v.0) (h.kept k (omega arith) lt2) ∙ same_call k;
      new_call = λ k le lt. ap (λ (v : View). v.0) (h.fresh_is k (omega arith) lt);
    }
  where
    top : View
    top = (a.call, tests_after (kind_of program e.stmt) e.stmt me e.value a.tests)

    below : List View
    below = views as'

    at_top : (k s : ℕ) → (nat_eq (k + 1) (length (a ∷ as')) && of_test program e s) ≡ false → k ≡ length as' → of_test program e s ≡ false
    at_top k s isnt is = elim (and_cases (nat_eq (k + 1) (length (a ∷ as'))) (of_test program e s) isnt) [
      | inl f ↦ absurd (both_ways (nat_eq (k + 1) (length (a ∷ as'))) f (eq-eqb (k + 1) (length (a ∷ as')) (omega arith)))
      | inr f ↦ f
    ]

    before : (k s : ℕ) → (nat_eq (k + 1) (length (a ∷ as')) && of_test program e s) ≡ false → k < length (a ∷ as') → latest_at (top ∷ below) k s ≡ latest_at (views (a ∷ as')) k s
    before k s isnt lt = elim (cases_eq k (length below)) [
      | inl is ↦
          ap (λ (v : View). latest s v.1) (hit no_view top below k is)
          ∙ older (kind_of program e.stmt) e.stmt s me e.value a.tests (at_top k s isnt (is ∙ views_length as'))
          ∙ ap (λ (v : View). latest s v.1) (sym (hit no_view (a.call, a.tests) below k is))
      | inr n ↦ ap (λ (v : View). latest s v.1) (miss no_view top below k n ∙ sym (miss no_view (a.call, a.tests) below k n))
    ]

    same_call : (k : ℕ) → call_at (top ∷ below) k ≡ call_at (views (a ∷ as')) k
    same_call k = elim (cases_eq k (length below)) [
      | inl is ↦ ap (λ (v : View). v.0) (hit no_view top below k is) ∙ ap (λ (v : View). v.0) (sym (hit no_view (a.call, a.tests) below k is))
      | inr n ↦ ap (λ (v : View). v.0) (miss no_view top below k n ∙ sym (miss no_view (a.call, a.tests) below k n))
    ]

-- ---- the step

-- the latest tests and the calls after a step
pub record StepTests (program : Program) (plan : Plan) (p : ℕ) (t : Tracing) (x : Taken) (now : List View) : Type 0 where
  pub newest_is : (k s : ℕ) → is_test program k s t.proc x ≡ true → k < length now → latest_at now k s ≡ Some (test_by s (me_in p t) (event_of program plan t.proc x t.proc.todo).value)
  pub older_is : (k s : ℕ) → is_test program k s t.proc x ≡ false → k < length t.proc.frames → k < length now → latest_at now k s ≡ latest_at (views t.activations) k s
  pub none_is : (k s : ℕ) → length t.proc.frames ≤ k → k < length now → latest_at now k s ≡ None
  pub old_call : (k : ℕ) → k < length t.proc.frames → k < length now → call_at now k ≡ call_at (views t.activations) k
  pub new_call : (k : ℕ) → length t.proc.frames ≤ k → k < length now → (is_event x.need ≡ true) × (call_at now k ≡ Some (me_in p t))

pub event_acts : (program : Program) (plan : Plan) (story : Story) (p : ℕ) (x : Taken) (n : Need) (t : Tracing) → is_event n ≡ true → (trace_by program plan story p x n t).activations ≡ (with_event program plan story p x t).activations
event_acts program plan story p x (Read c) t e = absurd (cc)
event_acts program plan story p x (Enter b u) t e = absurd (cc)
event_acts program plan story p x Budget t e = absurd (cc)
event_acts program plan story p x Stopped t e = absurd (cc)
event_acts program plan story p x n t e = refl

pub other_acts : (program : Program) (plan : Plan) (story : Story) (p : ℕ) (x : Taken) (n : Need) (t : Tracing) → is_event n ≡ false → (trace_by program plan story p x n t).activations ≡ t.activations
other_acts program plan story p x (Read c) t e = refl
other_acts program plan story p x (Enter b u) t e = refl
other_acts program plan story p x Budget t e = refl
other_acts program plan story p x Stopped t e = refl
other_acts program plan story p x n t e = absurd (cc)

-- a process that takes an event's step has a head
abbrev HeadIsTest : Program → Plan → Proc → Taken → List Todo → Type 0
HeadIsTest program plan proc x todo = (s : ℕ) → of_test program (event_of program plan proc x todo) s ≡ is_test_at program s todo

by_head : (program : Program) (plan : Plan) (proc : Proc) (x : Taken) (todo : List Todo) → is_event (need_of_running program plan todo proc) ≡ true → HeadIsTest program plan proc x todo
by_head program plan proc x [] e = absurd (cc)
by_head program plan proc x (t ∷ ts) e = λ s. refl

by_status : (program : Program) (plan : Plan) (proc : Proc) (x : Taken) (status : Option Status) → is_event (need_by_status program plan status proc) ≡ true → HeadIsTest program plan proc x proc.todo
by_status program plan proc x None e = by_head program plan proc x proc.todo e
by_status program plan proc x (Some st) e = absurd (cc)

pub acts_length : (t : Tracing) → HasTags t → length t.activations ≡ length t.proc.frames
acts_length t has = lengths t.proc.frames t.activations has

an_event : (program : Program) (plan : Plan) (story : Story) (p : ℕ) (t : Tracing) (x : Taken) → HasTags t → x.need ≡ need_of program plan t.proc → is_event x.need ≡ true
    → StepTests program plan p t x (views (with_event program plan story p x t).activations)
an_event program plan story p t x has own is =
    let e : Event = event_of program plan t.proc x t.proc.todo in
    let n : length t.activations ≡ length t.proc.frames = acts_length t has in
    let head : HeadIsTest program plan t.proc x t.proc.todo = by_status program plan t.proc x t.proc.status (ap is_event (sym own) ∙ is) in
    let now : List View = views (with_event program plan story p x t).activations in
    let h : Tested program t.activations (me_in p t) e now = tested program t.activations (me_in p t) e now (by_need program t.proc (Some (me_in p t)) x.need (with_test program (me_in p t) e t.activations)) in
    record {
      newest_is = λ k s holds lt. h.newest_is k s (top k s holds ∙ sym n) (head s ∙ (test k s holds)) lt;
      older_is = λ k s isnt lt lt2. h.older_is k s (not_test k s n (head s) isnt) (subst (λ m. k < m) (sym n) lt) lt2;
      none_is = λ k s le lt. h.none_is k s (subst (λ m. m ≤ k) (sym n) le) lt;
      old_call = λ k lt lt2. h.old_call k (subst (λ m. k < m) (sym n) lt) lt2;
      new_call = λ k le lt. (is, h.new_call k (subst (λ m. m ≤ k) (sym n) le) lt);
    }
  where
    inner : (k s : ℕ) → is_test program k s t.proc x ≡ true → (nat_eq (k + 1) (length t.proc.frames) && is_test_at program s t.proc.todo) ≡ true
    inner k s holds = ap (λ b. b && (nat_eq (k + 1) (length t.proc.frames) && is_test_at program s t.proc.todo)) (sym is) ∙ holds

    top : (k s : ℕ) → is_test program k s t.proc x ≡ true → k + 1 ≡ length t.proc.frames
    top k s holds = eqb-true (k + 1) (length t.proc.frames) (and_parts (nat_eq (k + 1) (length t.proc.frames)) (is_test_at program s t.proc.todo) (inner k s holds)).0

    test : (k s : ℕ) → is_test program k s t.proc x ≡ true → is_test_at program s t.proc.todo ≡ true
    test k s holds = (and_parts (nat_eq (k + 1) (length t.proc.frames)) (is_test_at program s t.proc.todo) (inner k s holds)).1

    not_test : (k s : ℕ) → length t.activations ≡ length t.proc.frames → of_test program (event_of program plan t.proc x t.proc.todo) s ≡ is_test_at program s t.proc.todo → is_test program k s t.proc x ≡ false
        → (nat_eq (k + 1) (length t.activations) && of_test program (event_of program plan t.proc x t.proc.todo) s) ≡ false
    not_test k s n head isnt =
        ap (λ m. nat_eq (k + 1) m && of_test program (event_of program plan t.proc x t.proc.todo) s) n
        ∙ ap (λ b. nat_eq (k + 1) (length t.proc.frames) && b) head
        ∙ ap (λ b. b && (nat_eq (k + 1) (length t.proc.frames) && is_test_at program s t.proc.todo)) (sym is) ∙ isnt

no_event_step : (program : Program) (plan : Plan) (p : ℕ) (t : Tracing) (x : Taken) → HasTags t → is_event x.need ≡ false → StepTests program plan p t x (views t.activations)
no_event_step program plan p t x has isnt =
    let n : length (views t.activations) ≡ length t.proc.frames = views_length t.activations ∙ acts_length t has in
    record {
      newest_is = λ k s holds lt. absurd (both_ways (is_event x.need) isnt (and_parts (is_event x.need) (nat_eq (k + 1) (length t.proc.frames) && is_test_at program s t.proc.todo) holds).0);
      older_is = λ k s f lt lt2. refl;
      none_is = λ k s le lt. absurd (omega arith);
      old_call = λ k lt lt2. refl;
      new_call = λ k le lt. absurd (omega arith);
    }

pub step_tests : (program : Program) (plan : Plan) (story : Story) (p : ℕ) (t : Tracing) (x : Taken) → HasTags t → x.need ≡ need_of program plan t.proc
    → StepTests program plan p t x (views (trace_step program plan story p t x).activations)
step_tests program plan story p t x has own = elim (cases_Bool (is_event x.need)) [
  | inl is ↦ subst (λ acts. StepTests program plan p t x (views acts)) (sym (event_acts program plan story p x x.need t is)) (an_event program plan story p t x has own is)
  | inr isnt ↦ subst (λ acts. StepTests program plan p t x (views acts)) (sym (other_acts program plan story p x x.need t isnt)) (no_event_step program plan p t x has isnt)
]
