-- In a valid program the statement round that of an event was tested before it, in its activation.
use Rattle.std.proofs.Common.{◌≡◌, ℕ, suc, ◌+◌, ◌<◌, ◌≤◌, ℤ, Bool, true, false, List, [], ◌∷◌, ◌++◌, Option, Some, None, refl, ap, sym, subst, ◌∙◌, length, inl, inr, arith}
use Rattle.std.specs.Prelude.{⊤, nat_eq, ◌&&◌, fold, slice_get, option_and_then, unwrap_or}
use Rattle.std.specs.List.{All}
use Rattle.std.proofs.lemmas.Bool.{and_from, cases_Bool, eq-eqb}
use Rattle.std.proofs.lemmas.Option.{slice_get_within}
use Rattle.ppd_ast.specs.declared.plan.Plan.{Plan}
use Rattle.ppd_ast.specs.declared.program.Body.{Body}
use Rattle.ppd_ast.specs.declared.program.Kind.{Kind}
use Rattle.ppd_ast.specs.declared.program.Program.{Program}
use Rattle.ppd_ast.specs.declared.status.Status.{Status}
use Rattle.ppd_ast.specs.Order.{StandIn}
use Rattle.ppd_ast.specs.Valid.{IsValid}
use Rattle.ppd_ast.specs.Lookups.{kind_of, no_body}
use Rattle.ppd_sem.specs.declared.event.Event.{Event}
use Rattle.ppd_sem.specs.declared.proc.Proc.{Proc}
use Rattle.ppd_sem.specs.declared.proc.Todo.{Todo}
use Rattle.ppd_sem.specs.Process.{need_of, started, todos}
use Rattle.ppd_sem.proofs.NeedWords.{act_at, need_by_status, need_of_running}
use Rattle.ppd_sem.specs.Runs.{IsInner, IsRunnableBody, returns}
use Rattle.ppd_sem.proofs.Kept.{There, there_at}
use Rattle.ppd_sem.proofs.Validity.{valid-runnable}
use Rattle.ppd_sem.specs.Described.{is_event}
use Rattle.ppd_model.specs.declared.trace.EventId.{EventId}
use Rattle.ppd_model.specs.FullTrace.{Activation, Test, Tracing, begun_tracing, event_of, latest, me_in, tests_after, trace_step, with_test}
use Rattle.ppd_model.specs.LocalTags.{AreOwn, HasTags, from_end}
use Rattle.ppd_model.specs.Parents.{OutersAreTested, is_choice}
use Rattle.ppd_model.specs.Story.{Story, Taken, story}
use Rattle.ppd_model.proofs.FromEnd.{hit}
use Rattle.ppd_model.proofs.LocalTags.{has_all, has_begun, own_steps_told}
use Rattle.ppd_model.proofs.Moves.{AllInner, AreTop, Move, backs, body_top, calls, chooses, parent_is, passes, stays, step_moves, traps, turns}
use Rattle.ppd_model.proofs.Parents.{none_some, own_from, own_to, to_latest}
use Rattle.ppd_model.proofs.TestSteps.{View, acts_length, latest_at, newest, no_view, older, test_by, views, views_length}
use Rattle.ppd_model.proofs.Changes.{some}

-- ---- what is to do stands in tested statements

abbrev HasTest : ℕ → List Test → Type 0
HasTest r tests = (y : Test) × (latest r tests ≡ Some y)

-- the statement round statement s was tested, if there is one
abbrev Stands : Program → List Test → ℕ → Type 0
Stands program tests s = (outer : ℕ) → option_and_then (λ x. x.parent) (slice_get program.stmts s) ≡ Some outer → HasTest outer tests

-- the activations after a statement, which may return
abbrev left_by : Bool → View → List View → List View
left_by true v vs = vs
left_by false v vs = v ∷ vs

-- each statement still to do stands so in the activation that will then be the top one
abbrev AllStand : Program → List View → List Todo → Type 0
AllStand program vs [] = ⊤
AllStand program [] (t ∷ ts) = ⊥
AllStand program (v ∷ vs) (t ∷ ts) = Stands program v.1 t.stmt × AllStand program (left_by (returns (kind_of program t.stmt)) v vs) ts

abbrev HasMore : View → View → Type 0
HasMore v w = (r : ℕ) → HasTest r v.1 → HasTest r w.1

more_left : (program : Program) (b : Bool) (v w : View) (vs : List View) (ts : List Todo) → (AllStand program (v ∷ vs) ts → AllStand program (w ∷ vs) ts)
    → AllStand program (left_by b v vs) ts → AllStand program (left_by b w vs) ts
more_left program true v w vs ts f h = h
more_left program false v w vs ts f h = f h

more_stand : (program : Program) (v w : View) (vs : List View) (ts : List Todo) → HasMore v w → AllStand program (v ∷ vs) ts → AllStand program (w ∷ vs) ts
more_stand program v w vs [] more h = tt
more_stand program v w vs (t ∷ ts) more h = (
  λ outer e. more outer (h.0 outer e),
  more_left program (returns (kind_of program t.stmt)) v w vs ts (λ g. more_stand program v w vs ts more g) h.1,
)

inner_stand : (program : Program) (s : ℕ) (v : View) (vs : List View) (stmts : List ℕ) (ts : List Todo) → HasTest s v.1 → AllInner program s stmts → AllStand program (v ∷ vs) ts → AllStand program (v ∷ vs) (todos stmts ++ ts)
inner_stand program s v vs [] ts has inner h = h
inner_stand program s v vs (i ∷ is) ts has inner h = (
  λ outer e. subst (λ r. HasTest r v.1) (some (sym inner.0.parent ∙ e)) has,
  subst (λ b. AllStand program (left_by b v vs) (todos is ++ ts)) (sym inner.0.stays) (inner_stand program s v vs is ts has inner.1 h),
)

top_stand : (program : Program) (v : View) (vs : List View) (stmts : List ℕ) (ts : List Todo) → AreTop program stmts → AllStand program vs ts → AllStand program (v ∷ vs) (todos stmts ++ ts)
top_stand program v vs [] ts top h = absurd top
top_stand program v vs (i ∷ []) ts top h = (
  λ outer e. absurd (none_some (sym top.0 ∙ e)),
  subst (λ b. AllStand program (left_by b v vs) ts) (sym top.1) h,
)
top_stand program v vs (i ∷ j ∷ is) ts top h = (
  λ outer e. absurd (none_some (sym top.0.0 ∙ e)),
  subst (λ b. AllStand program (left_by b v vs) (todos (j ∷ is) ++ ts)) (sym top.0.1) (top_stand program v vs (j ∷ is) ts top.1 h),
)

-- ---- one step

more_tests : (k : Kind) (q : ℕ) (me : EventId) (value : Option ℤ) (tests : List Test) (r : ℕ) → HasTest r tests → HasTest r (tests_after k q me value tests)
more_tests k q me value tests r has = elim (cases_Bool (nat_eq q r && is_choice k)) [
  | inl is ↦ (test_by r me value, newest k q r me value tests is)
  | inr isnt ↦ (has.0, older k q r me value tests isnt ∙ has.1)
]

new_test : (k : Kind) (q : ℕ) (me : EventId) (value : Option ℤ) (tests : List Test) → is_choice k ≡ true → HasTest q (tests_after k q me value tests)
new_test k q me value tests is = (test_by q me value, newest k q q me value tests (and_from (nat_eq q q) (is_choice k) (eq-eqb q q refl) is))

module _ (program : Program) (t : Todo) (ts : List Todo) (v w : View) (vs : List View) (more : HasMore v w) (new : is_choice (kind_of program t.stmt) ≡ true → HasTest t.stmt w.1) (h : AllStand program (v ∷ vs) (t ∷ ts)) where
  put : (todo todo2 : List Todo) (now now2 : List View) → todo ≡ todo2 → now ≡ now2 → AllStand program now2 todo2 → AllStand program now todo
  put todo todo2 now now2 e f g = subst (λ (xs : List Todo). AllStand program now xs) (sym e) (subst (λ (ws : List View). AllStand program ws todo2) (sym f) g)

  after : AllStand program (w ∷ vs) (t ∷ ts)
  after = more_stand program v w vs (t ∷ ts) more h

  rest : (b : Bool) → returns (kind_of program t.stmt) ≡ b → AllStand program (left_by b w vs) ts
  rest b e = subst (λ (c : Bool). AllStand program (left_by c w vs) ts) e after.1

  by_move : (todo : List Todo) (now : List View) → Move program t ts (v ∷ vs) (w ∷ vs) todo now → AllStand program now todo
  by_move todo now (stays u e todo_is now_is) =
      put todo (u ∷ ts) now (v ∷ vs) todo_is now_is (subst (λ (s : ℕ). Stands program v.1 s × AllStand program (left_by (returns (kind_of program s)) v vs) ts) (sym e) h)
  by_move todo now (traps u e todo_is now_is) =
      put todo (u ∷ ts) now (w ∷ vs) todo_is now_is (subst (λ (s : ℕ). Stands program w.1 s × AllStand program (left_by (returns (kind_of program s)) w vs) ts) (sym e) after)
  by_move todo now (passes no_return todo_is now_is) = put todo ts now (w ∷ vs) todo_is now_is (rest false no_return)
  by_move todo now (chooses stmts no_return choice inner todo_is now_is) =
      put todo (todos stmts ++ ts) now (w ∷ vs) todo_is now_is (inner_stand program t.stmt w vs stmts ts (new choice) inner (rest false no_return))
  by_move todo now (turns stmts no_return choice inner todo_is now_is) =
      put todo (todos stmts ++ t ∷ ts) now (w ∷ vs) todo_is now_is (inner_stand program t.stmt w vs stmts (t ∷ ts) (new choice) inner after)
  by_move todo now (calls top me no_return are_top todo_is now_is) =
      put todo (todos top ++ ts) now ((me, []) ∷ w ∷ vs) todo_is now_is (top_stand program (me, []) (w ∷ vs) top ts are_top (rest false no_return))
  by_move todo now (backs is_return todo_is now_is) = put todo ts now vs todo_is now_is (rest true is_return)

by_acts : (program : Program) (t : Todo) (ts : List Todo) (acts : List Activation) (me : EventId) (e : Event) (todo : List Todo) (now : List View) → e.stmt ≡ t.stmt → AllStand program (views acts) (t ∷ ts)
    → Move program t ts (views acts) (views (with_test program me e acts)) todo now → AllStand program now todo
by_acts program t ts [] me e todo now is h move = absurd h
by_acts program t ts (a ∷ as') me e todo now is h move =
    by_move program t ts (a.call, a.tests) (a.call, tests_after (kind_of program e.stmt) e.stmt me e.value a.tests) (views as')
    (λ r has. more_tests (kind_of program e.stmt) e.stmt me e.value a.tests r has)
    (λ choice. subst (λ s. HasTest s (tests_after (kind_of program e.stmt) e.stmt me e.value a.tests)) is
    (new_test (kind_of program e.stmt) e.stmt me e.value a.tests (ap (λ s. is_choice (kind_of program s)) is ∙ choice)))
    h todo now move

module _ (program : Program) (plan : Plan) (story : Story) (p : ℕ) (valid : IsValid program) where
  abbrev next : Tracing → Taken → Tracing
  next t x = trace_step program plan story p t x

  by_todo : (u : Tracing) (x : Taken) (todo : List Todo) → x.need ≡ need_of program plan u.proc → u.proc.todo ≡ todo → AllStand program (views u.activations) u.proc.todo → AllStand program (views (next u x).activations) (next u x).proc.todo
  by_todo u x [] own is h =
      let none : (next u x).proc.todo ≡ [] = ap (λ todo. (act_at program plan x.answer todo u.proc).todo) is ∙ is in
      subst (λ todo. AllStand program (views (next u x).activations) todo) (sym none) tt
  by_todo u x (t ∷ ts) own is h =
      by_acts program t ts u.activations (me_in p u) (event_of program plan u.proc x u.proc.todo) (next u x).proc.todo (views (next u x).activations)
      (ap (λ todo. (event_of program plan u.proc x todo).stmt) is) (subst (λ todo. AllStand program (views u.activations) todo) is h)
      (step_moves program plan story p u x t ts valid own is)

  stand_all : (u : Tracing) (xs : List Taken) → AreOwn program plan u.proc xs → AllStand program (views u.activations) u.proc.todo
      → AllStand program (views (fold (trace_step program plan story p) u xs).activations) (fold (trace_step program plan story p) u xs).proc.todo
  stand_all u [] own h = h
  stand_all u (x ∷ xs) own h = stand_all (next u x) xs own.1 (by_todo u x u.proc.todo own.0 refl h)

-- ---- the start

process_stand : (program : Program) (n body : ℕ) (v : View) (stmts : List ℕ) → All (IsInner program n) stmts → StandIn program.stmts None body stmts → AllStand program (v ∷ []) (todos stmts)
process_stand program n body v [] over stands = tt
process_stand program n body v (i ∷ is) over stands = (
  λ outer e. absurd (none_some (sym (parent_is (slice_get program.stmts i) None body (stands 0 i (omega arith))) ∙ e)),
  subst (λ b. AllStand program (left_by b v []) (todos is)) (sym (over 0 i (omega arith)).stays)
      (process_stand program n body v is (λ k d lt. over (suc k) d (omega arith)) (λ k d lt. stands (suc k) d (omega arith))),
)

start_of : (program : Program) (f : ℕ) (v : View) (o : Option Body) → IsValid program → program.functions ≤ f → slice_get program.bodies f ≡ o → AllStand program (v ∷ []) (todos (unwrap_or o no_body).top)
start_of program f v None valid le e = tt
start_of program f v (Some b) valid le e =
    let body : There (IsRunnableBody program) program.bodies f = there_at (IsRunnableBody program) program.bodies f (valid-runnable program valid).bodies (slice_get_within program.bodies f b e) in
    let one : body.0 ≡ b = cc (body.1) in
    let over : All (IsInner program b.cells) b.top = subst (λ (x : Body). All (IsInner program x.cells) x.top) one (body.2.top le) in
    process_stand program b.cells f v b.top over (body_top program f b valid e)

stand_start : (program : Program) (plan : Plan) (p budget : ℕ) → IsValid program → AllStand program (views (begun_tracing (started program plan p budget)).activations) (started program plan p budget).todo
stand_start program plan p budget valid = start_of program (program.functions + p) (None, []) (slice_get program.bodies (program.functions + p)) valid (omega arith) refl

-- ---- an event

-- the head stands in the top activation
record Headed (program : Program) (acts : List Activation) (s : ℕ) : Type 0 where
  there : 0 < length acts
  stands : (k : ℕ) → k + 1 ≡ length acts → (outer : ℕ) → option_and_then (λ x. x.parent) (slice_get program.stmts s) ≡ Some outer → (y : Test) × (latest_at (views acts) k outer ≡ Some y)

headed : (program : Program) (acts : List Activation) (t : Todo) (ts : List Todo) → AllStand program (views acts) (t ∷ ts) → Headed program acts t.stmt
headed program [] t ts h = absurd h
headed program (a ∷ as') t ts h = record {
  there = omega arith;
  stands = λ k e outer is.
      let has : HasTest outer a.tests = h.0 outer is in
      (has.0, ap (λ (v : View). latest outer v.1) (at_top k e) ∙ has.1);
}
  where
    at_top : (k : ℕ) → k + 1 ≡ length (a ∷ as') → from_end no_view (views (a ∷ as')) k ≡ (a.call, a.tests)
    at_top k e = let n : length (views as') ≡ length as' = views_length as' in hit no_view (a.call, a.tests) (views as') k (omega arith)

by_head : (program : Program) (plan : Plan) (proc : Proc) (x : Taken) (acts : List Activation) (todo : List Todo) → is_event (need_of_running program plan todo proc) ≡ true → AllStand program (views acts) todo → Headed program acts (event_of program plan proc x todo).stmt
by_head program plan proc x acts [] e h = absurd (cc)
by_head program plan proc x acts (t ∷ ts) e h = headed program acts t ts h

by_status : (program : Program) (plan : Plan) (proc : Proc) (x : Taken) (acts : List Activation) (status : Option Status) → is_event (need_by_status program plan status proc) ≡ true → AllStand program (views acts) proc.todo
    → Headed program acts (event_of program plan proc x proc.todo).stmt
by_status program plan proc x acts None e h = by_head program plan proc x acts proc.todo e h
by_status program plan proc x acts (Some st) e h = absurd (cc)

pub outers_tested : OutersAreTested
outers_tested setting h p before taken after valid steps finishes =
    let s : Story = story setting h in
    let t : Tracing = begun_tracing (started setting.program setting.plan p setting.budget) in
    let u : Tracing = fold (trace_step setting.program setting.plan s p) t before in
    let mine : AreOwn setting.program setting.plan t.proc (before ++ taken ∷ after) = subst (λ xs. AreOwn setting.program setting.plan t.proc xs) steps (own_steps_told setting h p) in
    let own : AreOwn setting.program setting.plan t.proc before = own_to setting.program setting.plan s p t.proc before (taken ∷ after) mine in
    let need : taken.need ≡ need_of setting.program setting.plan u.proc = (own_from setting.program setting.plan s p t before (taken ∷ after) mine).0 in
    let has : HasTags t = has_begun (started setting.program setting.plan p setting.budget).frames in
    let n : length u.activations ≡ length u.proc.frames = acts_length u (has_all setting.program setting.plan s p t before has own) in
    let all : AllStand setting.program (views u.activations) u.proc.todo = stand_all setting.program setting.plan s p valid t before own (stand_start setting.program setting.plan p setting.budget valid) in
    let head : Headed setting.program u.activations (event_of setting.program setting.plan u.proc taken u.proc.todo).stmt = by_status setting.program setting.plan u.proc taken u.activations u.proc.status (ap is_event (sym need) ∙ finishes) all in
    record {
      activation = subst (λ m. 0 < m) n head.there;
      tested = λ k outer top is.
          let y : (y : Test) × (latest_at (views u.activations) k outer ≡ Some y) = head.stands k (top ∙ sym n) outer is in
          record {
            event = y.0.event;
            passed = y.0.passed;
            latest = to_latest setting.program setting.plan s p (started setting.program setting.plan p setting.budget).frames t before k refl has own (omega arith) outer y.0 y.1;
          };
    }
