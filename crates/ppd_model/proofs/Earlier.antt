-- A trace without its tags is the run, and its tags and parents name earlier events.
use Rattle.ppd_ast.specs.Lookups.{body_numbered, kind_of}
use Rattle.ppd_ast.specs.declared.plan.Plan.{Plan}
use Rattle.ppd_ast.specs.declared.program.Kind.{Kind}
use Rattle.ppd_ast.specs.declared.program.Kind.TheVariants.{If, While}
use Rattle.ppd_ast.specs.declared.program.Program.{Program}
use Rattle.ppd_model.proofs.TraceWords.{of_outer, tagged_at}
use Rattle.ppd_model.specs.Earlier.{AreEarlier, EachNamesEarlier, IsEarlier, IsEarlierAt, NamesEarlier, TracesNameEarlierEvents, TracesTellRuns, own_events}
use Rattle.ppd_model.specs.FullTrace.{Activation, Tag, Test, Tracing, all_tagged, begun_tracing, called, event_of, latest, me_in, of_run, parent_at, parent_in, tag_past, tagged, tagged_after, tagged_by, tagged_into, tags_of, tests_after, top_tags, trace_by, trace_step, traced_by, with_event, with_test}
use Rattle.ppd_model.specs.Story.{Story, Taken}
use Rattle.ppd_model.specs.declared.trace.EventId.{EventId}
use Rattle.ppd_model.specs.declared.trace.TracedEvent.{TracedEvent}
use Rattle.ppd_sem.specs.Asked.{Asked}
use Rattle.ppd_sem.specs.Deed.{Deed, back, clear, invoke, receive, set_local}
use Rattle.ppd_sem.specs.Described.{is_event}
use Rattle.ppd_sem.specs.Process.{act, head_deed, into_at, started, top_frame}
use Rattle.ppd_sem.specs.declared.event.Access.{Access}
use Rattle.ppd_sem.specs.declared.event.Event.{Event}
use Rattle.ppd_sem.specs.declared.event.Spot.{Spot}
use Rattle.ppd_sem.specs.declared.event.Spot.TheVariants.{Local, Shared}
use Rattle.ppd_sem.specs.declared.proc.Frame.{Frame}
use Rattle.ppd_sem.specs.declared.proc.Need.{Need}
use Rattle.ppd_sem.specs.declared.proc.Need.TheVariants.{Budget, Enter, Read, Stopped, Trap}
use Rattle.ppd_sem.specs.declared.proc.Proc.{Proc}
use Rattle.ppd_sem.specs.declared.proc.Todo.{Todo}
use Rattle.std.proofs.Common.{Bool, Err, List, None, Ok, Option, Some, [], ap, arith, cond, drop, false, get_or, length, length-append, map, refl, slice_set, subst, suc, sym, true, zero, ℕ, ℤ, ◌++◌, ◌+◌, ◌∙◌, ◌∷◌, ◌≡◌, ◌≤◌}
use Rattle.std.proofs.lemmas.List.{append-nil, append_assoc}
use Rattle.std.specs.List.{AllByRecursion as Each}
use Rattle.std.specs.Option.{option_or}
use Rattle.std.specs.Prelude.{fold, nat_eq, option_and_then, option_map, replicate, slice_get, ⊤, ◌-◌}

-- ---- the run

module _ (program : Program) (plan : Plan) (story : Story) (p : ℕ) where
  bare : List TracedEvent → List Event
  bare es = map (λ e. e.event) es

  bare-append : (es fs : List TracedEvent) → bare (es ++ fs) ≡ bare es ++ bare fs
  unfolding bare
  bare-append [] fs = refl
  bare-append (e ∷ es) fs = ap (λ (xs : List Event). e.event ∷ xs) (bare-append es fs)

  bare_by : (x : Taken) (t : Tracing) (n : Need) → bare (trace_by program plan story p x n t).events ≡ bare t.events ++ cond (is_event n) (event_of program plan t.proc x t.proc.todo ∷ []) []
  unfolding bare
  bare_by x t (Read c) = sym (append-nil (bare t.events))
  bare_by x t (Enter b u) = sym (append-nil (bare t.events))
  bare_by x t Budget = sym (append-nil (bare t.events))
  bare_by x t Stopped = sym (append-nil (bare t.events))
  bare_by x t n = bare-append t.events (traced_by program story x t (event_of program plan t.proc x t.proc.todo) ∷ [])

  joined : (b : Bool) (e : Event) (es rest : List Event) → (es ++ cond b (e ∷ []) []) ++ rest ≡ es ++ cond b (e ∷ rest) rest
  joined true e es rest = append_assoc es (e ∷ []) rest
  joined false e es rest = ap (λ (l : List Event). l ++ rest) (append-nil es)

  bare_fold : (t : Tracing) (xs : List Taken) → bare (fold (trace_step program plan story p) t xs).events ≡ bare t.events ++ own_events program plan t.proc xs
  bare_fold t [] = sym (append-nil (bare t.events))
  bare_fold t (x ∷ xs) =
      let rest : List Event = own_events program plan (act program plan t.proc x.answer) xs in
      bare_fold (trace_step program plan story p t x) xs
      ∙ ap (λ (es : List Event). es ++ rest) (bare_by x t x.need)
      ∙ joined (is_event x.need) (event_of program plan t.proc x t.proc.todo) (bare t.events) rest

  pub told_run : (budget : ℕ) (steps : List Taken) → map (λ e. e.event) (fold (trace_step program plan story p) (begun_tracing (started program plan p budget)) steps).events ≡ own_events program plan (started program plan p budget) steps
  unfolding bare
  told_run budget steps = bare_fold (begun_tracing (started program plan p budget)) steps

pub tell_runs : TracesTellRuns
tell_runs setting story p steps = told_run setting.program setting.plan story p setting.budget steps

-- ---- each

pub each_more : {A : Type 0} (P Q : A → Type 0) (xs : List A) → ((x : A) → P x → Q x) → Each P xs → Each Q xs
each_more P Q [] f h = h
each_more P Q (x ∷ xs) f h = (f x h.0, each_more P Q xs f h.1)

each_set : {A : Type 0} (P : A → Type 0) (xs : List A) (i : ℕ) (y : A) → P y → Each P xs → Each P (slice_set xs i y)
each_set P [] zero y new h = h
each_set P [] (suc i) y new h = h
each_set P (x ∷ xs) zero y new h = (new, h.1)
each_set P (x ∷ xs) (suc i) y new h = (h.0, each_set P xs i y new h.1)

pub each_at : {A : Type 0} (P : A → Type 0) (xs : List A) (i : ℕ) (d : A) → P d → Each P xs → P (get_or xs i d)
each_at P [] i d none h = none
each_at P (x ∷ xs) zero d none h = h.0
each_at P (x ∷ xs) (suc i) d none h = each_at P xs i d none h.1

each_copy : {A : Type 0} (P : A → Type 0) (n : ℕ) (y : A) → P y → Each P (replicate n y)
each_copy P zero y h = tt
each_copy P (suc n) y h = (h, each_copy P n y h)

pub each_append : {A : Type 0} (P : A → Type 0) (xs ys : List A) → Each P xs → Each P ys → Each P (xs ++ ys)
each_append P [] ys h k = k
each_append P (x ∷ xs) ys h k = (h.0, each_append P xs ys h.1 k)

each_drop : {A : Type 0} (P : A → Type 0) (xs : List A) → Each P xs → Each P (drop 1 xs)
each_drop P [] h = h
each_drop P (x ∷ xs) h = h.1

-- ---- earlier events

module _ (p : ℕ) where
  pub later : (j k : ℕ) (w : Tag) → j ≤ k → IsEarlier p j w → IsEarlier p k w
  later j k None le h = tt
  later j k (Some e) le h = (h.0, omega (arith, h.1))

  abbrev pub IsEarlierTest : ℕ → Test → Type 0
  IsEarlierTest k x = IsEarlier p k (Some x.event)

  -- the tags, the call and the tests of an activation
  pub record IsPast (k : ℕ) (x : Activation) : Type 0 where
    pub call : IsEarlier p k x.call
    pub tags : Each (IsEarlier p k) x.tags
    pub tests : Each (IsEarlierTest k) x.tests

  past_later : (j k : ℕ) (x : Activation) → j ≤ k → IsPast j x → IsPast k x
  past_later j k x le h = record {
    call = later j k x.call le h.call;
    tags = each_more (IsEarlier p j) (IsEarlier p k) x.tags (λ w e. later j k w le e) h.tags;
    tests = each_more (IsEarlierTest j) (IsEarlierTest k) x.tests (λ y e. later j k (Some y.event) le e) h.tests;
  }

  -- ---- what is written

  tagged_past : (k c : ℕ) (w : Tag) (xs : List Activation) → IsEarlier p k w → Each (IsPast k) xs → Each (IsPast k) (tagged c w xs)
  tagged_past k c w [] e h = h
  tagged_past k c w (x ∷ xs) e h = (record { call = h.0.call; tags = each_set (IsEarlier p k) x.tags c w e h.0.tags; tests = h.0.tests }, h.1)

  all_past : (k base n : ℕ) (w : Tag) (xs : List Activation) → IsEarlier p k w → Each (IsPast k) xs → Each (IsPast k) (all_tagged base n w xs)
  all_past k base zero w xs e h = h
  all_past k base (suc n) w xs e h = tagged_past k (base + n) w (all_tagged base n w xs) e (all_past k base n w xs e h)

  called_past : (k : ℕ) (program : Program) (f count : ℕ) (w : Tag) → IsEarlier p k w → IsPast k (called program f count w)
  called_past k program f count w e = record {
    call = e;
    tags = each_append (IsEarlier p k) (replicate count w) (replicate ((body_numbered program f).cells - count) None) (each_copy (IsEarlier p k) count w e) (each_copy (IsEarlier p k) ((body_numbered program f).cells - count) None tt);
    tests = tt;
  }

  into_past : (k : ℕ) (into : Option ℕ) (value : Option ℤ) (w : Tag) (xs : List Activation) → IsEarlier p k w → Each (IsPast k) xs → Each (IsPast k) (tagged_into into value w xs)
  into_past k None value w xs e h = h
  into_past k (Some c) None w xs e h = h
  into_past k (Some c) (Some v) w xs e h = tagged_past k c w xs e h

  by_past : (k : ℕ) (program : Program) (s : Proc) (w : Tag) (asked : Asked Deed) (xs : List Activation) → IsEarlier p k w → Each (IsPast k) xs → Each (IsPast k) (tagged_by program s w asked xs)
  by_past k program s w (Ok (set_local c v, left)) xs e h = tagged_past k c w xs e h
  by_past k program s w (Ok (clear base len, left)) xs e h = all_past k base len w xs e h
  by_past k program s w (Ok (invoke f values into, left)) xs e h = (called_past k program f (length values) w e, h)
  by_past k program s w (Ok (back value, left)) xs e h = into_past k (into_at program (top_frame s.frames).call) value w (drop 1 xs) e (each_drop (IsPast k) xs h)
  by_past k program s w (Ok (receive chan into, left)) xs e h = tagged_past k into w xs e h
  by_past k program s w (Ok (deed, left)) xs e h = h
  by_past k program s w (Err pause) xs e h = h

  at_past : (k : ℕ) (program : Program) (s : Proc) (w : Tag) (todo : List Todo) (xs : List Activation) → IsEarlier p k w → Each (IsPast k) xs → Each (IsPast k) (tagged_at program s w todo xs)
  at_past k program s w [] xs e h = h
  at_past k program s w (t ∷ ts) xs e h = by_past k program s w (head_deed program t s) xs e h

  after_past : (k : ℕ) (program : Program) (s : Proc) (w : Tag) (n : Need) (xs : List Activation) → IsEarlier p k w → Each (IsPast k) xs → Each (IsPast k) (tagged_after program s w n xs)
  after_past k program s w (Trap t) xs e h = h
  after_past k program s w n xs e h = at_past k program s w s.todo xs e h

  tests_past : (k : ℕ) (kind : Kind) (s : ℕ) (me : EventId) (value : Option ℤ) (tests : List Test) → IsEarlier p k (Some me) → Each (IsEarlierTest k) tests → Each (IsEarlierTest k) (tests_after kind s me value tests)
  tests_past k (If a b c) s me value tests e h = (e, h)
  tests_past k (While a b) s me value tests e h = (e, h)
  tests_past k kind s me value tests e h = h

  test_past : (k : ℕ) (program : Program) (me : EventId) (e : Event) (xs : List Activation) → IsEarlier p k (Some me) → Each (IsPast k) xs → Each (IsPast k) (with_test program me e xs)
  test_past k program me e [] earlier h = h
  test_past k program me e (x ∷ xs) earlier h =
      (record { call = h.0.call; tags = h.0.tags; tests = tests_past k (kind_of program e.stmt) e.stmt me e.value x.tests earlier h.0.tests }, h.1)

  -- ---- what an event names

  pub top_past : (k : ℕ) (xs : List Activation) → Each (IsPast k) xs → Each (IsEarlier p k) (top_tags xs)
  top_past k [] h = tt
  top_past k (x ∷ xs) h = h.0.tags

  spot_past : (k : ℕ) (locals answers : List Tag) (spot : Spot) → Each (IsEarlier p k) locals → IsEarlierAt p k spot (tag_past locals answers spot).0
  spot_past k locals answers (Local frame c) h = each_at (IsEarlier p k) locals c None tt h
  spot_past k locals answers (Shared c) h = tt

  reads_past : (k : ℕ) (locals answers : List Tag) (reads : List Access) → Each (IsEarlier p k) locals → AreEarlier p k reads (tags_of locals answers reads)
  reads_past k locals answers [] h = tt
  reads_past k locals answers (a ∷ as') h = (spot_past k locals answers a.spot h, reads_past k locals (tag_past locals answers a.spot).1 as' h)

  -- the event of a test that was found
  abbrev IsFound : ℕ → Option Test → Type 0
  IsFound k None = ⊤
  IsFound k (Some x) = IsEarlier p k (Some x.event)

  found : (k : ℕ) (b : Bool) (x : Test) (rest : Option Test) → IsEarlier p k (Some x.event) → IsFound k rest → IsFound k (cond b (Some x) rest)
  found k true x rest e h = e
  found k false x rest e h = h

  latest_past : (k s : ℕ) (tests : List Test) → Each (IsEarlierTest k) tests → IsFound k (latest s tests)
  latest_past k s [] h = tt
  latest_past k s (x ∷ xs) h = found k (nat_eq x.stmt s) x (latest s xs) h.0 (latest_past k s xs h.1)

  passed_past : (k : ℕ) (b : Bool) (e : EventId) → IsEarlier p k (Some e) → IsEarlier p k (cond b (Some e) None)
  passed_past k true e h = h
  passed_past k false e h = tt

  run_past : (k : ℕ) (kind : Kind) (x : Option Test) → IsFound k x → IsEarlier p k (of_run kind x)
  run_past k (While a b) (Some x) h = passed_past k x.passed x.event h
  run_past k (While a b) None h = tt
  run_past k kind x h = tt

  event_past : (k : ℕ) (x : Option Test) → IsFound k x → IsEarlier p k (option_map (λ y. y.event) x)
  event_past k None h = tt
  event_past k (Some x) h = h

  outer_past : (k : ℕ) (s : Option ℕ) (tests : List Test) → Each (IsEarlierTest k) tests → IsEarlier p k (of_outer s tests)
  outer_past k None tests h = tt
  outer_past k (Some s) tests h = event_past k (latest s tests) (latest_past k s tests h)

  else_past : (k : ℕ) (a b : Tag) → IsEarlier p k a → IsEarlier p k b → IsEarlier p k (option_or a b)
  else_past k None b h g = g
  else_past k (Some e) b h g = h

  in_past : (k : ℕ) (program : Program) (s : ℕ) (x : Activation) → IsPast k x → IsEarlier p k (parent_in program s x)
  in_past k program s x h =
      else_past k (of_run (kind_of program s) (latest s x.tests)) (option_or (of_outer (option_and_then (λ x. x.parent) (slice_get program.stmts s)) x.tests) x.call)
      (run_past k (kind_of program s) (latest s x.tests) (latest_past k s x.tests h.tests))
      (else_past k (of_outer (option_and_then (λ x. x.parent) (slice_get program.stmts s)) x.tests) x.call (outer_past k (option_and_then (λ x. x.parent) (slice_get program.stmts s)) x.tests h.tests) h.call)

  pub parent_past : (k : ℕ) (program : Program) (xs : List Activation) (todo : List Todo) → Each (IsPast k) xs → IsEarlier p k (parent_at program xs todo)
  parent_past k program [] todo h = tt
  parent_past k program (x ∷ xs) [] h = tt
  parent_past k program (x ∷ xs) (t ∷ ts) h = in_past k program t.stmt x h.0

  -- ---- one more event

  one_more : (k : ℕ) (es : List TracedEvent) (e : TracedEvent) → EachNamesEarlier p k es → NamesEarlier p (k + length es) e → EachNamesEarlier p k (es ++ e ∷ [])
  one_more k [] e h new = let same : k + 0 ≡ k = omega arith in (subst (λ (n : ℕ). NamesEarlier p n e) same new, tt)
  one_more k (x ∷ xs) e h new =
      let same : k + length (x ∷ xs) ≡ (k + 1) + length xs = omega arith in
      (h.0, one_more (k + 1) xs e h.1 (subst (λ (n : ℕ). NamesEarlier p n e) same new))

  pub record IsGood (t : Tracing) : Type 0 where
    pub past : Each (IsPast (length t.events)) t.activations
    pub events : EachNamesEarlier p 0 t.events

  module _ (program : Program) (plan : Plan) (story : Story) where
    named : (x : Taken) (t : Tracing) (e : Event) → Each (IsPast (length t.events)) t.activations → NamesEarlier p (length t.events) (traced_by program story x t e)
    named x t e h = record {
      writers = reads_past (length t.events) (top_tags t.activations) t.answers e.reads (top_past (length t.events) t.activations h);
      parent = parent_past (length t.events) program t.activations t.proc.todo h;
    }

    event_good : (x : Taken) (t : Tracing) → IsGood t → IsGood (with_event program plan story p x t)
    event_good x t g =
        let e : Event = event_of program plan t.proc x t.proc.todo in
        let k : ℕ = length t.events in
        let me : EventId = me_in p t in
        let more : length (t.events ++ traced_by program story x t e ∷ []) ≡ k + 1 = length-append t.events (traced_by program story x t e ∷ []) in
        let earlier : IsEarlier p (k + 1) (Some me) = (refl, omega arith) in
        let from_start : k ≡ 0 + k = omega arith in
        let new : NamesEarlier p (0 + k) (traced_by program story x t e) = subst (λ (n : ℕ). NamesEarlier p n (traced_by program story x t e)) from_start (named x t e g.past) in
        let before : Each (IsPast (k + 1)) t.activations = each_more (IsPast k) (IsPast (k + 1)) t.activations (λ a h. past_later k (k + 1) a (omega arith) h) g.past in
        let after : Each (IsPast (k + 1)) (tagged_after program t.proc (Some me) x.need (with_test program me e t.activations)) =
        after_past (k + 1) program t.proc (Some me) x.need (with_test program me e t.activations) earlier (test_past (k + 1) program me e t.activations earlier before) in
        record {
          past = subst (λ (n : ℕ). Each (IsPast n) (tagged_after program t.proc (Some me) x.need (with_test program me e t.activations))) (sym more) after;
          events = one_more 0 t.events (traced_by program story x t e) g.events new;
        }

    by_good : (x : Taken) (t : Tracing) (n : Need) → IsGood t → IsGood (trace_by program plan story p x n t)
    by_good x t (Read c) g = record { past = g.past; events = g.events }
    by_good x t (Enter b u) g = g
    by_good x t Budget g = g
    by_good x t Stopped g = g
    by_good x t n g = event_good x t g

    pub step_good : (x : Taken) (t : Tracing) → IsGood t → IsGood (trace_step program plan story p t x)
    step_good x t g = let h : IsGood (trace_by program plan story p x x.need t) = by_good x t x.need g in record { past = h.past; events = h.events }

    fold_good : (t : Tracing) (xs : List Taken) → IsGood t → IsGood (fold (trace_step program plan story p) t xs)
    fold_good t [] g = g
    fold_good t (x ∷ xs) g = fold_good (trace_step program plan story p t x) xs (step_good x t g)

  none_past : (k : ℕ) (cells : List ℤ) → Each (IsEarlier p k) (map (λ _. None) cells)
  none_past k [] = tt
  none_past k (v ∷ vs) = (tt, none_past k vs)

  pub begun_past : (k : ℕ) (frames : List Frame) → Each (IsPast k) (map (λ f. record { call = None; tags = map (λ _. None) f.cells; tests = [] }) frames)
  begun_past k [] = tt
  begun_past k (f ∷ fs) = (record { call = tt; tags = none_past k f.cells; tests = tt }, begun_past k fs)

pub name_earlier : TracesNameEarlierEvents
name_earlier setting story p steps =
    (fold_good p setting.program setting.plan story (begun_tracing (started setting.program setting.plan p setting.budget)) steps
    (record { past = begun_past p 0 (started setting.program setting.plan p setting.budget).frames; events = tt })).events
