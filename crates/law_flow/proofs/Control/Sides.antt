-- What the search for control finds among the items of a level, beside what the trace has.
use Rattle.std.proofs.Common.{◌≡◌, ℕ, ◌-◌, Bool, true, false, ◌⊎◌, List, [], ◌∷◌, Option, Some, None, refl, ap, sym, subst, inl, inr, true≢false, if◌then◌else◌}
use Rattle.std.specs.Prelude.{⊤, option_map, slice_get, take, unwrap_or, option_and_then}
use Rattle.ppd_ast.specs.Numbered.{is_while}
use Rattle.ppd_ast.specs.declared.plan.BlockKind.{BlockKind}
use Rattle.ppd_ast.specs.declared.plan.BlockKind.TheVariants as block
use Rattle.ppd_ast.specs.declared.plan.Policy.{Policy}
use Rattle.ppd_ast.specs.declared.program.Kind.{Kind}
use Rattle.ppd_ast.specs.declared.program.Kind.TheVariants as kind
use Rattle.ppd_ast.specs.declared.program.Program.{Program}
use Rattle.ppd_ast.specs.Lookups.{kind_of}
use Rattle.ppd_blocks.specs.Blocks.{plan_of}
use Rattle.ppd_sem.specs.declared.event.Event.{Event}
use Rattle.ppd_model.specs.declared.flow.Origin.{Origin}
use Rattle.ppd_model.specs.declared.flow.Origin.TheVariants as origin
use Rattle.ppd_model.specs.declared.trace.EventId.{EventId}
use Rattle.ppd_model.specs.declared.tracing.Test.{Test}
use Rattle.ppd_model.specs.FullTrace.{latest, of_run}
use Rattle.std.specs.Option.{option_or}
use Rattle.ppd_model.proofs.TraceWords.{of_outer}
use Rattle.ppd_model.proofs.TestSteps.{View}
use Rattle.ppd_graph.specs.declared.last_test.LastTest.{LastTest}
use Rattle.ppd_graph.specs.declared.leaf_call.LeafCall.{LeafCall}
use Rattle.ppd_graph.specs.Control.{leaf_call_at, test_of_run}
use Rattle.ppd_graph.specs.Locals.{frame_in}
use Rattle.law_flow.proofs.Control.Sights.{Sign, leaf_over, tests_over}
use Rattle.law_flow.proofs.Control.Levels.{IsUnfound, Met, Run, passes}

-- the parent that the trace has of statement s in this activation
abbrev pub parent_of : Program → ℕ → View → Option EventId
parent_of program s v =
    option_or (of_run (kind_of program s) (latest s v.1))
    (option_or (of_outer (option_and_then (λ x. x.parent) (slice_get program.stmts s)) v.1) v.0)

-- no run goes on
pub none_run : (x : Kind) (o : Option Test) → passes o ≡ false → of_run x o ≡ None
none_run (kind.While e body) None h = refl
none_run (kind.While e body) (Some y) h = ap (λ b. if b then Some y.event else None) h
none_run x o h = refl

module _ (program : Program) (policy : Policy) (p : ℕ) where
  -- ---- the search over runs

  abbrev pub round_over : ℕ → ℕ → List Sign → Option ℕ → Option Origin
  round_over k frame sight None = None
  round_over k frame sight (Some o) = option_map (λ t. origin.Item p k t.item)
      (tests_over program (plan_of program policy) frame o sight)

  abbrev pub among_over : ℕ → ℕ → List Sign → Option LeafCall → Option Origin
  among_over k s sight call =
      option_or (test_of_run p k (kind_of program s)
      (tests_over program (plan_of program policy) (frame_in call) s sight))
      (option_or (round_over k (frame_in call) sight (option_and_then (λ x. x.parent) (slice_get program.stmts s))) (leaf_call_at p k call))

  abbrev pub found_over : ℕ → ℕ → List Sign → Option Origin
  found_over k s sight = among_over k s sight (leaf_over program (plan_of program policy) sight)

  abbrev pub number_in : List Run → ℕ
  number_in [] = 0
  number_in (r ∷ rs) = r.number

  abbrev pub begun_by : Run → List Run → BlockKind → Origin
  begun_by r rs (block.Function f) = origin.Item p (number_in rs) (r.place - 1)
  begun_by r rs k = origin.Entry

  abbrev pub outside_over : ℕ → List Run → ℕ → Origin
  outside_over place [] l = origin.Entry
  outside_over place (q ∷ qs) l = unwrap_or (found_over q.number l (take place q.sight)) (begun_by q qs q.kind)

  abbrev pub above_over : Run → List Run → BlockKind → Origin
  above_over r rs (block.Loop l) = outside_over r.place rs l
  above_over r rs k = begun_by r rs k

  abbrev pub control_over : List Run → ℕ → Origin
  control_over [] s = origin.Entry
  control_over (r ∷ rs) s = unwrap_or (found_over r.number s r.sight) (above_over r rs r.kind)

  -- ---- both sides

  -- both find nothing, or the search the item that the event is
  abbrev pub Side : ℕ → List Sign → Option Origin → Option EventId → Type 0
  Side k sight None None = ⊤
  Side k sight (Some o) (Some e) = (j : ℕ) × (ev : Event) × (o ≡ origin.Item p k j) × (e.process ≡ p)
      × (slice_get sight j ≡ Some (Some (e.number, ev)))
  Side k sight o e = ⊥

  pub side_else : (k : ℕ) (sight : List Sign) (a b : Option Origin) (c d : Option EventId) → Side k sight a c
      → Side k sight b d → Side k sight (option_or a b) (option_or c d)
  side_else k sight None b None d h g = g
  side_else k sight (Some o) b (Some e) d h g = h
  side_else k sight None b (Some e) d h g = absurd h
  side_else k sight (Some o) b None d h g = absurd h

  module _ (k frame : ℕ) (sight : List Sign) (v : View) where
    met_side : (s : ℕ) → (m : Met program policy p frame sight v s)
        → Side k sight (Some (origin.Item p k m.found.item)) (Some m.test.event)
    met_side s m = (m.found.item, m.event, refl, m.process_is, m.there)

    -- a run that goes on is found
    abbrev pub Again : ℕ → Type 0
    Again s = is_while (kind_of program s) ≡ true → Met program policy p frame sight v s
        ⊎ (IsUnfound program policy p frame sight s × (passes (latest s v.1) ≡ false))

    while_run : (x : Kind) (f : LastTest) (y : Test) → is_while x ≡ true → y.passed ≡ f.passed
        → Side k sight (Some (origin.Item p k f.item)) (Some y.event)
        → Side k sight (test_of_run p k x (Some f)) (of_run x (Some y))
    while_run (kind.While e body) f y w same h = by f.passed y.passed same
      where
        by : (a b : Bool) → b ≡ a → Side k sight (if a then Some (origin.Item p k f.item) else None)
            (if b then Some y.event else None)
        by true true e' = h
        by false false e' = tt
        by true false e' = absurd (true≢false (sym e'))
        by false true e' = absurd (true≢false e')
    while_run x f y w same h = absurd (true≢false (sym w))

    no_run : (x : Kind) (f : Option LastTest) (o : Option Test) → is_while x ≡ false
        → Side k sight (test_of_run p k x f) (of_run x o)
    no_run (kind.While e body) f o h = absurd (true≢false h)
    no_run x f o h = tt

    unfound_run : (x : Kind) → test_of_run p k x None ≡ None
    unfound_run (kind.While e body) = refl
    unfound_run x = refl

    pub run_side : (s : ℕ) → Again s
        → Side k sight (test_of_run p k (kind_of program s)
        (tests_over program (plan_of program policy) frame s sight)) (of_run (kind_of program s) (latest s v.1))
    run_side s again = by (is_while (kind_of program s)) refl
      where
        by : (b : Bool) → is_while (kind_of program s) ≡ b
            → Side k sight (test_of_run p k (kind_of program s)
            (tests_over program (plan_of program policy) frame s sight)) (of_run (kind_of program s) (latest s v.1))
        by false isnt = no_run (kind_of program s) (tests_over program (plan_of program policy) frame s sight)
            (latest s v.1) isnt
        by true is = elim (again is) [
          | inl m ↦
              subst (λ f. Side k sight (test_of_run p k (kind_of program s) f)
              (of_run (kind_of program s) (latest s v.1))) (sym m.found_is)
              (subst (λ o. Side k sight (test_of_run p k (kind_of program s) (Some m.found))
              (of_run (kind_of program s) o)) (sym m.test_is)
              (while_run (kind_of program s) m.found m.test is m.passed_is (met_side s m)))
          | inr none ↦
              subst (λ f. Side k sight (test_of_run p k (kind_of program s) f)
              (of_run (kind_of program s) (latest s v.1))) (sym none.0)
              (subst (λ o. Side k sight o (of_run (kind_of program s) (latest s v.1)))
              (sym (unfound_run (kind_of program s)))
              (subst (λ o. Side k sight None o) (sym (none_run (kind_of program s) (latest s v.1) none.1)) tt))
        ]

    pub outer_side : (o : ℕ) → Met program policy p frame sight v o
        → Side k sight (round_over k frame sight (Some o)) (of_outer (Some o) v.1)
    outer_side o m =
        subst (λ f. Side k sight (option_map (λ t. origin.Item p k t.item) f) (of_outer (Some o) v.1)) (sym m.found_is)
        (subst (λ y. Side k sight (Some (origin.Item p k m.found.item)) (option_map (λ (t : Test). t.event) y))
        (sym m.test_is) (met_side o m))

    -- where the statement round it was tested, if there is one
    pub outers_side : (parent : Option ℕ) → ((o : ℕ) → parent ≡ Some o → Met program policy p frame sight v o)
        → Side k sight (round_over k frame sight parent) (of_outer parent v.1)
    outers_side None h = tt
    outers_side (Some o) h = outer_side o (h o refl)

  -- ---- the answer

  -- the process itself, or an item of one of these runs that the event is
  abbrev pub Answer : List Run → Origin → Option EventId → Type 0
  Answer rs o None = o ≡ origin.Entry
  Answer rs o (Some e) = (q : Run) × (i : ℕ) × (slice_get rs i ≡ Some q) × (j : ℕ) × (ev : Event)
      × (o ≡ origin.Item p q.number j) × (e.process ≡ p) × (slice_get q.sight j ≡ Some (Some (e.number, ev)))

  -- what is found in a run, and else something else
  pub answered : (rs : List Run) (q : Run) (i : ℕ) (sight : List Sign) (a : Option Origin) (c d : Option EventId)
      (o : Origin) → slice_get rs i ≡ Some q
      → ((j : ℕ) (x : Sign) → slice_get sight j ≡ Some x → slice_get q.sight j ≡ Some x)
      → Side q.number sight a c → Answer rs o d → Answer rs (unwrap_or a o) (option_or c d)
  answered rs q i sight None None d o at longer h g = g
  answered rs q i sight (Some f) (Some e) d o at longer h g =
      (q, i, at, h.0, h.1, h.2, h.3, longer h.0 (Some (e.number, h.1)) h.4)
  answered rs q i sight None (Some e) d o at longer h g = absurd h
  answered rs q i sight (Some f) None d o at longer h g = absurd h
