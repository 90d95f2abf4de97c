-- What is asked at a level that is no loop's: the tests of a statement, of the one round it, and the call that goes on.
use Rattle.std.proofs.Common.{◌≡◌, ℕ, zero, suc, false, ◌⊎◌, List, [], ◌∷◌, ◌++◌, Option, Some, None, refl, ap, sym, ◌∙◌, inl, inr}
use Rattle.std.specs.Prelude.{is_some, slice_get, unwrap_or, option_and_then}
use Rattle.std.proofs.lemmas.Option.{none-some}
use Rattle.ppd_ast.specs.Valid.{IsValid}
use Rattle.ppd_ast.specs.declared.plan.BlockKind.TheVariants as block
use Rattle.ppd_ast.specs.declared.plan.Policy.{Policy}
use Rattle.ppd_ast.specs.declared.program.Program.{Program}
use Rattle.ppd_ast.specs.Lookups.{kind_of, body_of}
use Rattle.ppd_blocks.specs.Blocks.{plan_of}
use Rattle.ppd_sem.specs.declared.event.Event.{Event}
use Rattle.ppd_sem.specs.Tables.{block_of}
use Rattle.ppd_model.specs.declared.flow.Origin.{Origin}
use Rattle.ppd_model.specs.declared.flow.Origin.TheVariants as origin
use Rattle.ppd_model.specs.declared.trace.EventId.{EventId}
use Rattle.ppd_model.specs.FullTrace.{latest, of_run}
use Rattle.std.specs.Option.{option_or}
use Rattle.ppd_model.proofs.TraceWords.{of_outer}
use Rattle.ppd_model.proofs.TestSteps.{View}
use Rattle.ppd_graph.specs.declared.leaf_call.LeafCall.{LeafCall}
use Rattle.ppd_graph.specs.Control.{test_of_run}
use Rattle.law_flow.proofs.Control.KindDeeds.{while_choice}
use Rattle.law_flow.proofs.Control.Sights.{Sign, leaf_nested, leaf_over, tests_nested, tests_over}
use Rattle.law_flow.proofs.Control.Statics.{Calm, calm_free, in_own_loop}
use Rattle.law_flow.proofs.Control.Levels.{Fact, IsUnfound, Knows, Level, Met, OverNext, Plain, Run, Sort, frame_of, function, leaf, loop, passes, process, runs_with}
use Rattle.law_flow.proofs.Control.Sides.{Again, Answer, Side, number_in, outers_side, round_over, run_side, side_else}

pub first_run : (sort : Sort) (r : Run) (rs : List Run) → (i : ℕ) × (slice_get (runs_with sort r rs) i ≡ Some r)
first_run process r rs = (0, refl)
first_run function r rs = (0, refl)
first_run leaf r rs = (0, refl)
first_run (loop l) r rs = (0, refl)

pub at_nested : (xs : List Sign) (j n : ℕ) (e : Event) → slice_get (xs ++ None ∷ []) j ≡ Some (Some (n, e))
    → slice_get xs j ≡ Some (Some (n, e))
at_nested [] zero n e h = absurd (cc)
at_nested [] (suc j) n e h = absurd (none-some _ h)
at_nested (x ∷ xs) zero n e h = h
at_nested (x ∷ xs) (suc j) n e h = at_nested xs j n e h

module _ (program : Program) (policy : Policy) (p : ℕ) (v : IsValid program) where
  -- ---- of a statement whose level is no loop's

  -- its tests and those of the statement round it, and the call that goes on
  pub record Query (sort : Sort) (sight : List Sign) (w : View) (s : ℕ) : Type 0 where
    pub again : Again program policy p 0 (frame_of sort) sight w s
    pub outer : (o : ℕ) → option_and_then (λ x. x.parent) (slice_get program.stmts s) ≡ Some o
        → Met program policy p (frame_of sort) sight w o

  pub plain_again : (frame body : ℕ) (sight : List Sign) (w : View) (s : ℕ) → Plain program policy p frame body sight w
      → body_of program s ≡ body → Calm program policy s → Again program policy p 0 frame sight w s
  plain_again frame body sight w s h home calm is = by (block_of (plan_of program policy) (block.Loop s)) refl
    where
      quiet_none : IsUnfound program policy p frame sight s × (latest s w.1 ≡ None)
          → IsUnfound program policy p frame sight s × (passes (latest s w.1) ≡ false)
      quiet_none none = (none.0, ap passes none.1)

      by : (o : Option ℕ) → block_of (plan_of program policy) (block.Loop s) ≡ o → Met program policy p frame sight w s
          ⊎ (IsUnfound program policy p frame sight s × (passes (latest s w.1) ≡ false))
      by None at = elim (h.free s home (while_choice (kind_of program s) is) (calm_free program policy s calm at))
          [ inl none ↦ inr (quiet_none none) | inr m ↦ inl m ]
      by (Some b) at = inr (
        h.unfound s home (ap is_some at),
        h.quiet s s is (ap is_some at)
            (in_own_loop program policy s),
      )

  pub plain_query : (sort : Sort) (x : Level) (s : ℕ) → (sort ≡ x.sort) → ((m : ℕ) → sort ≡ loop m → ⊥)
      → Knows program policy p sort x.body x.run.sight x.view x.todo
      → Fact program policy p sort x.body x.run.sight x.view s → Query sort x.run.sight x.view s
  plain_query process x s is none h f =
      record { again = plain_again 0 x.body x.run.sight x.view s h f.home f.stands; outer = λ o e. (f.outer o e).met }
  plain_query function x s is none h f =
      record { again = plain_again 0 x.body x.run.sight x.view s h f.home f.stands; outer = λ o e. (f.outer o e).met }
  plain_query leaf x s is none h f =
      record { again = plain_again 1 x.body x.run.sight x.view s h f.home f.stands; outer = λ o e. (f.outer o e).met }
  plain_query (loop m) x s is none h f = absurd (none m refl)

  -- before an interval that is nested there
  pub met_before : (frame : ℕ) (sight : List Sign) (w : View) (s : ℕ)
      → Met program policy p frame (sight ++ None ∷ []) w s
      → Met program policy p frame sight w s
  met_before frame sight w s m = record {
    found = m.found;
    found_is = sym (tests_nested program (plan_of program policy) frame s sight) ∙ m.found_is;
    test = m.test;
    test_is = m.test_is;
    event = m.event;
    there = at_nested sight m.found.item m.test.event.number m.event m.there;
    process_is = m.process_is;
    passed_is = m.passed_is;
  }

  pub query_before : (sort : Sort) (sight : List Sign) (w : View) (s : ℕ) → Query sort (sight ++ None ∷ []) w s
      → Query sort sight w s
  query_before sort sight w s q = record {
    again = λ is. elim (q.again is) [
      | inl m ↦ inl (met_before (frame_of sort) sight w s m)
      | inr none ↦ inr (sym (tests_nested program (plan_of program policy) (frame_of sort) s sight) ∙ none.0, none.1)
    ];
    outer = λ o e. met_before (frame_of sort) sight w o (q.outer o e);
  }

  -- the call that goes on after these items
  abbrev pub LeafAt : Sort → List Sign → View → Type 0
  LeafAt leaf sight w = (call : LeafCall) × (n : ℕ) × (e : Event)
      × (leaf_over program (plan_of program policy) sight ≡ Some call)
      × (slice_get sight call.item ≡ Some (Some (n, e))) × (w.0 ≡ Some (record { process = p; number = n }))
  LeafAt s sight w = leaf_over program (plan_of program policy) sight ≡ None

  pub leaf_before : (sort : Sort) (sight : List Sign) (w : View) → LeafAt sort (sight ++ None ∷ []) w
      → LeafAt sort sight w
  leaf_before process sight w h = sym (leaf_nested program (plan_of program policy) sight) ∙ h
  leaf_before function sight w h = sym (leaf_nested program (plan_of program policy) sight) ∙ h
  leaf_before leaf sight w h = (
    h.0,
    h.1,
    h.2,
    sym (leaf_nested program (plan_of program policy) sight)
        ∙ h.3,
    at_nested sight h.0.item h.1 h.2 h.4,
    h.5,
  )
  leaf_before (loop l) sight w h = sym (leaf_nested program (plan_of program policy) sight) ∙ h

  pub leaf_at : (x : Level) (sort : Sort) (ys : List Level) → OverNext program policy p sort x ys
      → (frame_of sort ≡ 0 → leaf_over program (plan_of program policy) x.run.sight ≡ None)
      → LeafAt sort x.run.sight x.view
  leaf_at x process ys o none = none refl
  leaf_at x function ys o none = none refl
  leaf_at x leaf [] o none = absurd o
  leaf_at x leaf (y ∷ ys) o none = (o.call, o.number, o.event, o.leaf_is, o.there, o.called)
  leaf_at x (loop l) ys o none = none refl

  pub call_side : (k : ℕ) (sight : List Sign) (call : LeafCall) (n : ℕ) (e : Event)
      → slice_get sight call.item ≡ Some (Some (n, e))
      → Side program policy p k sight (Some (origin.Item p k call.item)) (Some (record { process = p; number = n }))
  call_side k sight call n e at = (call.item, e, refl, refl, at)

  abbrev pub test_at : ℕ → ℕ → List Sign → ℕ → Option Origin
  test_at k frame sight s = test_of_run p k (kind_of program s)
      (tests_over program (plan_of program policy) frame s sight)

  -- among the items, but for what began the activation of an interval
  pub near_side : (k : ℕ) (frame : ℕ) (sight : List Sign) (w : View) (s : ℕ) → Again program policy p 0 frame sight w s
      → ((o : ℕ) → option_and_then (λ x. x.parent) (slice_get program.stmts s) ≡ Some o → Met program policy p frame sight w o)
      → (a : Option Origin) (c : Option EventId)
      → Side program policy p k sight a c
      → Side program policy p k sight
      (option_or (test_at k frame sight s)
      (option_or (round_over program policy p k frame sight (option_and_then (λ x. x.parent) (slice_get program.stmts s))) a))
      (option_or (of_run (kind_of program s) (latest s w.1))
      (option_or (of_outer (option_and_then (λ x. x.parent) (slice_get program.stmts s)) w.1) c))
  near_side k frame sight w s again outer a c h =
      side_else program policy p k sight (test_at k frame sight s)
      (option_or (round_over program policy p k frame sight (option_and_then (λ x. x.parent) (slice_get program.stmts s))) a)
      (of_run (kind_of program s) (latest s w.1)) (option_or (of_outer (option_and_then (λ x. x.parent) (slice_get program.stmts s)) w.1) c)
      (run_side program policy p k frame sight w s again)
      (side_else program policy p k sight
      (round_over program policy p k frame sight (option_and_then (λ x. x.parent) (slice_get program.stmts s))) a
      (of_outer (option_and_then (λ x. x.parent) (slice_get program.stmts s)) w.1) c
      (outers_side program policy p k frame sight w (option_and_then (λ x. x.parent) (slice_get program.stmts s)) outer) h)

  -- ---- options

  pub else_assoc : (a b d : Option EventId) → option_or (option_or a (option_or b None)) d ≡ option_or a (option_or b d)
  else_assoc None None d = refl
  else_assoc None (Some b) d = refl
  else_assoc (Some a) b d = refl

  pub else_some : (a b : Option EventId) (e : EventId) → option_or a (option_or b (Some e)) ≡ None → ⊥
  else_some None None e h = none-some e (sym h)
  else_some None (Some b) e h = none-some b (sym h)
  else_some (Some a) b e h = none-some a (sym h)

  -- what is found, whatever else there is
  pub sure : (rs : List Run) (q : Run) (i : ℕ) (sight : List Sign) (a : Option Origin) (c : Option EventId)
      (o : Origin)
      → slice_get rs i ≡ Some q
      → ((j : ℕ) (x : Sign) → slice_get sight j ≡ Some x → slice_get q.sight j ≡ Some x)
      → Side program policy p q.number sight a c → (c ≡ None → ⊥) → Answer program policy p rs (unwrap_or a o) c
  sure rs q i sight None None o at longer h some = absurd (some refl)
  sure rs q i sight (Some f) (Some e) o at longer h some =
      (q, i, at, h.0, h.1, h.2, h.3, longer h.0 (Some (e.number, h.1)) h.4)
  sure rs q i sight None (Some e) o at longer h some = absurd h
  sure rs q i sight (Some f) None o at longer h some = absurd h

  pub number_of : (sort : Sort) (r : Run) (rs : List Run) → number_in program policy p (runs_with sort r rs) ≡ r.number
  number_of process r rs = refl
  number_of function r rs = refl
  number_of leaf r rs = refl
  number_of (loop l) r rs = refl
