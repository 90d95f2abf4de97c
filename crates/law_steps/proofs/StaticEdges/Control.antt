-- Control comes over the static edges.
use Rattle.ppd_model.specs.Setting.{Setting}
use Rattle.law_steps.proofs.StaticEdges.Events.{is_event_of, traced_by_steps}
use Rattle.law_steps.proofs.StaticEdges.Lists.{here, in_right, there}
use Rattle.law_steps.proofs.StaticEdges.States.{HasHead, event_head, head_stmt, head_there, runs_all}
use Rattle.law_steps.specs.Sound.{ComesOverControl, ControlComesOverEdges, IsEventOf, control_edge}
use Rattle.ppd_ast.proofs.ValidLaws.{slice_get_there}
use Rattle.ppd_ast.proofs.Vocabulary.{kind_of_stmt}
use Rattle.ppd_ast.specs.Lookups.{kind_of}
use Rattle.ppd_ast.specs.Numbered.{is_call, is_while, is_while as is_loop}
use Rattle.ppd_ast.specs.Valid.{IsValid}
use Rattle.ppd_ast.specs.declared.program.Kind.{Kind}
use Rattle.ppd_ast.specs.declared.program.Kind.TheVariants.{Call, While}
use Rattle.ppd_ast.specs.declared.program.Program.{Program}
use Rattle.ppd_ast.specs.declared.program.Stmt.{Stmt}
use Rattle.ppd_deps.proofs.Vocabulary.{control_of, outer_edge}
use Rattle.ppd_deps.specs.Edges.{control_into, data_into, edges_of}
use Rattle.ppd_deps.specs.declared.edges.StaticEdge.{StaticEdge}
use Rattle.ppd_deps.specs.declared.edges.StaticEdge.TheVariants.{Control, ControlEntry}
use Rattle.ppd_model.proofs.LocalTags.{own_steps_told}
use Rattle.ppd_model.proofs.Parents.{own_from}
use Rattle.ppd_model.proofs.ValidParents.{valid_parents}
use Rattle.ppd_model.specs.FullTrace.{begun_tracing, event_of, full_trace}
use Rattle.ppd_model.specs.LocalTags.{AreOwn}
use Rattle.ppd_model.specs.Parents.{IsBegunBy, IsActiveFromStart, IsLatestTest, is_choice, is_test_at}
use Rattle.ppd_model.specs.Story.{story}
use Rattle.ppd_model.specs.declared.trace.EventId.{EventId}
use Rattle.ppd_model.specs.declared.tracing.Story.{Story}
use Rattle.ppd_model.specs.declared.tracing.Taken.{Taken}
use Rattle.ppd_model.specs.declared.tracing.Tracing.{Tracing}
use Rattle.ppd_sem.specs.Described.{is_event}
use Rattle.ppd_sem.specs.Process.{need_of, started}
use Rattle.ppd_sem.specs.declared.proc.Todo.{Todo}
use Rattle.std.proofs.Common.{Bool, List, None, Option, Some, [], ap, append_assoc, false, inl, inr, length, refl, subst, sym, true, true≢false, ℕ, ◌++◌, ◌+◌, ◌<◌, ◌∙◌, ◌∷◌, ◌≡◌, ◌⊎◌}
use Rattle.std.proofs.lemmas.Bool.{and_parts, cond-false, cond-true, eqb-true}
use Rattle.std.specs.List.{Contains}
use Rattle.std.specs.Prelude.{get_or, if◌then◌else◌, nat_eq, option_and_then, slice_get, ◌&&◌}

-- ---- the edges

in_edges : (p : Program) (t : ℕ) (e : StaticEdge) (o : Option Stmt) → slice_get p.stmts t ≡ o → Contains (control_of t o) e → Contains (edges_of p t) e
in_edges p t e o at h = in_right e (data_into p t) (control_into p t) (subst (λ x. Contains (control_of t x) e) (sym at) h)

-- the statement round it
outer_of : (p : Program) (t outer : ℕ) (o : Option Stmt) → slice_get p.stmts t ≡ o → option_and_then (λ (x : Stmt). x.parent) o ≡ Some outer → Contains (edges_of p t) (Control outer)
outer_of p t outer None at is = absurd (cc)
outer_of p t outer (Some x) at is =
    in_edges p t (Control outer) (Some x) at
    (subst (λ e. Contains (control_of t (Some x)) e) (ap outer_edge is) (here (outer_edge x.parent) (if is_loop x.kind then Control t ∷ [] else [])))

-- a loop itself
same_loop : (k : Kind) → is_while k ≡ true → is_loop k ≡ true
same_loop (While e body) h = refl
same_loop k h = absurd (true≢false (sym h))

itself : (p : Program) (t : ℕ) (o : Option Stmt) → slice_get p.stmts t ≡ o → is_while (kind_of_stmt o) ≡ true → Contains (edges_of p t) (Control t)
itself p t None at is = absurd (true≢false (sym is))
itself p t (Some x) at is =
    in_edges p t (Control t) (Some x) at
    (there (Control t) (outer_edge x.parent) (if is_loop x.kind then Control t ∷ [] else [])
    (subst (λ es. Contains es (Control t)) (sym (cond-true (is_loop x.kind) (Control t ∷ []) [] (same_loop x.kind is))) (here (Control t) [])))

-- the entry
entry_of : (p : Program) (t : ℕ) (x : Stmt) → slice_get p.stmts t ≡ Some x → option_and_then (λ (x : Stmt). x.parent) (Some x) ≡ None → Contains (edges_of p t) ControlEntry
entry_of p t x at is =
    in_edges p t ControlEntry (Some x) at
    (subst (λ e. Contains (control_of t (Some x)) e) (ap outer_edge is) (here (outer_edge x.parent) (if is_loop x.kind then Control t ∷ [] else [])))

-- ---- the kind of the parent

choice_edge : (p : Program) (s : ℕ) → is_choice (kind_of p s) ≡ true → control_edge p s ≡ Control s
choice_edge p s is = cond-true (is_choice (kind_of p s)) (Control s) ControlEntry is

no_choice : (k : Kind) → is_call k ≡ true → is_choice k ≡ false
no_choice (Call f arguments into) h = refl
no_choice k h = absurd (true≢false (sym h))

call_edge : (p : Program) (s : ℕ) → is_call (kind_of p s) ≡ true → control_edge p s ≡ ControlEntry
call_edge p s is = cond-false (is_choice (kind_of p s)) (Control s) ControlEntry (no_choice (kind_of p s) is)

-- a test is of its statement, which is one of choice
record Tests (program : Program) (s : ℕ) (todo : List Todo) : Type 0 where
  head : Todo
  rest : List Todo
  is : todo ≡ head ∷ rest
  stmt_is : head.stmt ≡ s
  choice : is_choice (kind_of program s) ≡ true

tests_of : (program : Program) (s : ℕ) (todo : List Todo) → is_test_at program s todo ≡ true → Tests program s todo
tests_of program s [] h = absurd (true≢false (sym h))
tests_of program s (t ∷ ts) h =
    let both = and_parts (nat_eq t.stmt s) (is_choice (kind_of program t.stmt)) h in
    let same : t.stmt ≡ s = eqb-true t.stmt s both.0 in
    record { head = t; rest = ts; is = refl; stmt_is = same; choice = subst (λ n. is_choice (kind_of program n) ≡ true) same both.1 }

-- ---- the parents of a trace

module _ (setting : Setting) (h : List ℕ) (p : ℕ) (valid : IsValid setting.program) where
  abbrev told_story : Story
  told_story = story setting h

  abbrev start : Tracing
  start = begun_tracing (started setting.program setting.plan p setting.budget)

  -- the latest test is an event of the statement
  test_is : (k s : ℕ) (before : List Taken) (taken : Taken) (after : List Taken) (event : EventId) (passed : Bool) → get_or told_story.steps p [] ≡ before ++ taken ∷ after
      → IsLatestTest setting.program setting.plan told_story p k s start before event passed → IsEventOf (full_trace setting (story setting h)) event s × (is_choice (kind_of setting.program s) ≡ true)
  test_is k s before taken after event passed steps l =
      let u : Tracing = traced_by_steps setting h p l.before in
      let both = and_parts (is_event l.taken.need) (nat_eq (k + 1) (length u.proc.frames) && is_test_at setting.program s u.proc.todo) l.tests in
      let at = and_parts (nat_eq (k + 1) (length u.proc.frames)) (is_test_at setting.program s u.proc.todo) both.1 in
      let tests : Tests setting.program s u.proc.todo = tests_of setting.program s u.proc.todo at.1 in
      let all : get_or told_story.steps p [] ≡ l.before ++ l.taken ∷ (l.after ++ taken ∷ after) = steps ∙ ap (λ xs. xs ++ taken ∷ after) l.steps_are ∙ append_assoc l.before (l.taken ∷ l.after) (taken ∷ after) in
      let stmt : (event_of setting.program setting.plan u.proc l.taken u.proc.todo).stmt ≡ s = ap (λ todo. (event_of setting.program setting.plan u.proc l.taken todo).stmt) tests.is ∙ tests.stmt_is in (
        subst (λ i. IsEventOf (full_trace setting (story setting h)) i s) (sym l.event_is) (is_event_of setting h p l.before l.taken (l.after ++ taken ∷ after) s all both.0 stmt),
        tests.choice,
      )

  -- a parent that is a test
  by_test : (t k s : ℕ) (before : List Taken) (taken : Taken) (after : List Taken) (event : EventId) (passed : Bool) (parent : Option EventId) → get_or told_story.steps p [] ≡ before ++ taken ∷ after
      → IsLatestTest setting.program setting.plan told_story p k s start before event passed → parent ≡ Some event → Contains (edges_of setting.program t) (Control s)
      → ComesOverControl setting.program (full_trace setting (story setting h)) parent t
  by_test t k s before taken after event passed parent steps l is edge =
      let test = test_is k s before taken after event passed steps l in
      subst (λ o. ComesOverControl setting.program (full_trace setting (story setting h)) o t) (sym is)
      (record { from = s; is_of = test.0; edge = subst (λ e. Contains (edges_of setting.program t) e) (sym (choice_edge setting.program s test.1)) edge })

  -- a parent that is a call, or none
  by_call : (t k : ℕ) (before : List Taken) (taken : Taken) (after : List Taken) (parent : Option EventId) → get_or told_story.steps p [] ≡ before ++ taken ∷ after
      → IsBegunBy setting.program setting.plan told_story p k start before parent ⊎ IsActiveFromStart setting.program setting.plan k start before parent → Contains (edges_of setting.program t) ControlEntry
      → ComesOverControl setting.program (full_trace setting (story setting h)) parent t
  by_call t k before taken after parent steps h2 edge = elim h2 [
    | inl c ↦
        let u : Tracing = traced_by_steps setting h p c.before in
        let s : ℕ = (event_of setting.program setting.plan u.proc c.taken u.proc.todo).stmt in
        let all : get_or told_story.steps p [] ≡ c.before ++ c.taken ∷ (c.after ++ taken ∷ after) = steps ∙ ap (λ xs. xs ++ taken ∷ after) c.steps_are ∙ append_assoc c.before (c.taken ∷ c.after) (taken ∷ after) in
        subst (λ o. ComesOverControl setting.program (full_trace setting (story setting h)) o t) (sym c.call_is)
        (record {
          from = s;
          is_of = is_event_of setting h p c.before c.taken (c.after ++ taken ∷ after) s all c.finishes refl;
          edge = subst (λ e. Contains (edges_of setting.program t) e) (sym (call_edge setting.program s c.calls)) edge;
        })
    | inr f ↦ subst (λ o. ComesOverControl setting.program (full_trace setting (story setting h)) o t) (sym f.call_is) edge
  ]

  -- the statement of an event is there
  event_there : (before : List Taken) (taken : Taken) (after : List Taken) (s : ℕ) → get_or told_story.steps p [] ≡ before ++ taken ∷ after → is_event taken.need ≡ true
      → (event_of setting.program setting.plan (traced_by_steps setting h p before).proc taken (traced_by_steps setting h p before).proc.todo).stmt ≡ s → s < length setting.program.stmts
  event_there before taken after s steps finishes is =
      let u : Tracing = traced_by_steps setting h p before in
      let mine : AreOwn setting.program setting.plan start.proc (before ++ taken ∷ after) = subst (λ xs. AreOwn setting.program setting.plan start.proc xs) steps (own_steps_told setting h p) in
      let own : taken.need ≡ need_of setting.program setting.plan u.proc = (own_from setting.program setting.plan told_story p start before (taken ∷ after) mine).0 in
      let head : HasHead u.proc = event_head setting.program setting.plan u.proc (ap is_event (sym own) ∙ finishes) in
      subst (λ n. n < length setting.program.stmts) (sym (head_stmt setting.program setting.plan u.proc taken head) ∙ is) (head_there setting.program u.proc head (runs_all setting.program setting.plan told_story p setting.budget before valid))

pub control_comes : ControlComesOverEdges
control_comes setting h p n e valid is =
    let st : Story = story setting h in
    let w = valid_parents setting h p n e valid is in
    let t : ℕ = e.event.stmt in
    let stmt_is : (event_of setting.program setting.plan (traced_by_steps setting h p w.event.before).proc w.event.taken (traced_by_steps setting h p w.event.before).proc.todo).stmt ≡ t = sym (ap (λ x. x.stmt) w.event.event_is) in
    elim w.parent [
      | inl g ↦ by_test setting h p valid t w.activation t w.event.before w.event.taken w.event.after g.event true e.parent w.event.steps_are g.latest g.parent_is (itself setting.program t (slice_get setting.program.stmts t) refl g.loops)
      | inr r ↦ elim r [
        | inl s ↦
            by_test setting h p valid t w.activation s.outer w.event.before w.event.taken w.event.after s.event s.passed e.parent w.event.steps_are s.latest s.parent_is (outer_of setting.program t s.outer (slice_get setting.program.stmts t) refl s.outer_is)
        | inr top ↦
            let x = slice_get_there setting.program.stmts t (event_there setting h p valid w.event.before w.event.taken w.event.after t w.event.steps_are w.event.finishes stmt_is) in
            by_call setting h p valid t w.activation w.event.before w.event.taken w.event.after e.parent w.event.steps_are top.call
            (entry_of setting.program t x.0 x.1 (ap (option_and_then (λ (x : Stmt). x.parent)) (sym x.1) ∙ top.top))
      ]
    ]
