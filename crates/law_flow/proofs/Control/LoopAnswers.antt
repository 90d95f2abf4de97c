-- The parent of a statement in a block loop, and of the loop itself, is found.
use Rattle.std.proofs.Common.{◌≡◌, ℕ, suc, true, false, List, [], ◌∷◌, Option, Some, None, refl, ap, sym, subst, ◌∙◌, inl, inr, arith}
use Rattle.std.specs.Prelude.{drop, option_map, slice_get, take, unwrap_or, option_and_then}
use Rattle.std.proofs.lemmas.List.{take_at}
use Rattle.ppd_ast.specs.Valid.{IsValid}
use Rattle.ppd_ast.specs.declared.plan.Policy.{Policy}
use Rattle.ppd_ast.specs.declared.program.Program.{Program}
use Rattle.ppd_ast.specs.Lookups.{kind_of, body_of}
use Rattle.ppd_blocks.specs.Blocks.{plan_of}
use Rattle.law_steps.proofs.Facts.Within.{within_cases}
use Rattle.ppd_sem.specs.declared.proc.Todo.{Todo}
use Rattle.ppd_blocks.specs.Walk.{stands_in}
use Rattle.ppd_model.specs.declared.flow.Origin.{Origin}
use Rattle.ppd_model.specs.declared.flow.Origin.TheVariants as origin
use Rattle.ppd_model.specs.declared.trace.EventId.{EventId}
use Rattle.ppd_model.specs.FullTrace.{latest, of_run}
use Rattle.std.specs.Option.{option_or}
use Rattle.ppd_model.proofs.TraceWords.{of_outer}
use Rattle.ppd_model.proofs.TestSteps.{View}
use Rattle.ppd_model.proofs.CountedOn.{kept_at}
use Rattle.law_flow.proofs.Control.KindDeeds.{while_choice}
use Rattle.law_flow.proofs.Control.Sights.{Sign, leaf_over}
use Rattle.law_flow.proofs.Control.Statics.{IsBlockLoop, block_loop_while, in_own_loop}
use Rattle.law_flow.proofs.Control.Levels.{Fact, Holds, Knows, Level, Looping, Met, OfLoop, OuterAt, Run, Sort, frame_of, function, leaf, loop, passes, process, runs_of, runs_with}
use Rattle.law_flow.proofs.Control.Sides.{Again, Answer, Side, above_over, among_over, answered, begun_by, found_over, none_run, outside_over, parent_of, round_over, run_side}
use Rattle.law_flow.proofs.Control.Queries.{first_run, Query, plain_query, query_before, LeafAt, leaf_before, leaf_at, test_at, near_side, else_some, sure}
use Rattle.law_flow.proofs.Control.PlainAnswers.{plain_answer}
use Rattle.ppd_ast.specs.declared.program.Stmt.{Stmt}

module _ (program : Program) (policy : Policy) (p : ℕ) (v : IsValid program) where
  -- ---- the level of a loop

  abbrev pub rest_with : Sort → List Run → List Run
  rest_with leaf rs = drop 1 rs
  rest_with s rs = rs

  pub runs_are : (sort : Sort) (r : Run) (rs : List Run) → runs_with sort r rs ≡ r ∷ rest_with sort rs
  runs_are process r rs = refl
  runs_are function r rs = refl
  runs_are leaf r rs = refl
  runs_are (loop l) r rs = refl

  pub rest_same : (sort : Sort) (rs : List Run) → frame_of sort ≡ 0 → rest_with sort rs ≡ rs
  rest_same process rs h = refl
  rest_same function rs h = refl
  rest_same leaf rs h = absurd (omega (arith, h))
  rest_same (loop l) rs h = refl

  -- no run of a block loop goes on at a level that is no loop's
  pub quiet_at : (sort : Sort) (body : ℕ) (sight : List Sign) (w : View) (todo : List Todo) (l : ℕ)
      → ((m : ℕ) → sort ≡ loop m → ⊥) → Knows program policy p sort body sight w todo → IsBlockLoop program policy l
      → passes (latest l w.1) ≡ false
  quiet_at process body sight w todo l none h is = h.quiet l l (block_loop_while program policy l is) is
      (in_own_loop program policy l)
  quiet_at function body sight w todo l none h is = h.quiet l l (block_loop_while program policy l is) is
      (in_own_loop program policy l)
  quiet_at leaf body sight w todo l none h is = h.quiet l l (block_loop_while program policy l is) is
      (in_own_loop program policy l)
  quiet_at (loop m) body sight w todo l none h is = absurd (none m refl)

  pub free_at : (sort : Sort) (l : ℕ) → ((m : ℕ) → sort ≡ loop m → ⊥) → IsBlockLoop program policy l → (o : ℕ)
      → OuterAt program policy p sort o → stands_in program o l ≡ false
  free_at process l none is o h = h l is
  free_at function l none is o h = h l is
  free_at leaf l none is o h = h l is
  free_at (loop m) l none is o h = absurd (none m refl)

  pub side_drop : (k : ℕ) (sight : List Sign) (a b : Option Origin) (c : Option EventId) → b ≡ None
      → Side program policy p k sight a c → Side program policy p k sight (option_or a (option_or b None)) c
  side_drop k sight (Some f) b c e h = h
  side_drop k sight None b c e h = subst (λ o. Side program policy p k sight (option_or o None) c) (sym e) h

  module _ (x : Level) (l : ℕ) (y : Level) (ys : List Level)
      (known : Looping program policy p l x.body x.run.sight x.view x.todo)
      (o : OfLoop program policy p l x.body x.run.kind x.run.place x.view y)
      (hy : Holds program policy p y ys)
      (no_call : leaf_over program (plan_of program policy) x.run.sight ≡ None) where
    abbrev pub rs : List Run
    rs = x.run ∷ runs_of (y ∷ ys)

    pub loop_again : (s : ℕ) → body_of program s ≡ x.body → stands_in program s l ≡ true
        → Again program policy p 0 0 x.run.sight x.view s
    loop_again s home inside is = elim (known.met s home (while_choice (kind_of program s) is)) [
      | inl none ↦ inr (none, known.quiet s home is inside none)
      | inr m ↦ inl m
    ]

    -- a statement round which another one was tested
    pub inner_answer : (s outer : ℕ) (f : Origin) → body_of program s ≡ x.body → stands_in program s l ≡ true
        → option_and_then (λ x. x.parent) (slice_get program.stmts s) ≡ Some outer → Met program policy p 0 x.run.sight x.view outer
        → Answer program policy p rs (unwrap_or (found_over program policy p x.run.number s x.run.sight) f)
        (parent_of program s x.view)
    inner_answer s outer f home inside parent m =
        let tests : List _ = x.view.1 in
        let test : of_outer (option_and_then (λ x. x.parent) (slice_get program.stmts s)) tests ≡ Some m.test.event = ap
        (λ z. of_outer z tests) parent ∙ ap (option_map (λ t. t.event)) m.test_is in
        let whole : option_or (of_run (kind_of program s) (latest s tests))
        (option_or (of_outer (option_and_then (λ x. x.parent) (slice_get program.stmts s)) tests) None) ≡ parent_of program s x.view =
        ap (λ z. option_or (of_run (kind_of program s) (latest s tests)) (option_or z None)) test
        ∙ sym (ap (λ z. option_or (of_run (kind_of program s) (latest s tests)) (option_or z x.view.0)) test) in
        subst (λ c. Answer program policy p rs
        (unwrap_or (found_over program policy p x.run.number s x.run.sight) f) c) whole
        (subst (λ call. Answer program policy p rs
        (unwrap_or (among_over program policy p x.run.number s x.run.sight call) f)
        (option_or (of_run (kind_of program s) (latest s tests))
        (option_or (of_outer (option_and_then (λ x. x.parent) (slice_get program.stmts s)) tests) None))) (sym no_call)
        (sure program policy p v rs x.run 0 x.run.sight (among_over program policy p x.run.number s x.run.sight None)
        (option_or (of_run (kind_of program s) (latest s tests))
        (option_or (of_outer (option_and_then (λ x. x.parent) (slice_get program.stmts s)) tests) None)) f refl (λ j q at. at)
        (near_side program policy p v x.run.number 0 x.run.sight x.view s (loop_again s home inside)
        (λ i e. subst (λ z. Met program policy p 0 x.run.sight x.view z) (one_outer outer i (sym parent ∙ e)) m)
        None None tt)
        (λ e. else_none (of_run (kind_of program s) (latest s tests))
        (of_outer (option_and_then (λ x. x.parent) (slice_get program.stmts s)) tests) m.test.event test e)))
      where
        one_outer : (a b : ℕ) → Some a ≡ Some b → a ≡ b
        one_outer a b e = ap (λ z. elim z [ None ↦ a | Some k ↦ k ]) e

        else_none : (a b : Option EventId) (e : EventId) → b ≡ Some e → option_or a (option_or b None) ≡ None → ⊥
        else_none a b e is none = else_some program policy p v a None e
            (sym (else_same a e) ∙ ap (λ z. option_or a (option_or z None)) (sym is) ∙ none)
          where
            else_same : (a : Option EventId) (e : EventId)
                → option_or a (option_or (Some e) None) ≡ option_or a (option_or None (Some e))
            else_same a e = refl

    -- ---- the loop itself

    pub outer_same : (parent : Option ℕ) → ((i : ℕ) → parent ≡ Some i → stands_in program i l ≡ false)
        → of_outer parent x.view.1 ≡ of_outer parent y.view.1
    outer_same None h = refl
    outer_same (Some i) h = ap (option_map (λ t. t.event)) (o.same i (h i refl))

    abbrev pub above : Origin
    above = outside_over program policy p x.run.place (runs_of (y ∷ ys)) l

    pub above_answer : Answer program policy p rs above
        (option_or (of_outer (option_and_then (λ x. x.parent) (slice_get program.stmts l)) x.view.1) x.view.0)
    above_answer =
        let before : List Sign = o.before in
        let rest : List Run = rest_with y.sort (runs_of ys) in
        let q : Query program policy p v y.sort y.run.sight y.view l = plain_query program policy p v y.sort y l refl
        o.not_loop hy.knows o.fact in
        let q_before : Query program policy p v y.sort before y.view l = query_before program policy p v y.sort before
        y.view l
        (subst (λ ss. Query program policy p v y.sort ss y.view l) o.sight_is q) in
        let call : LeafAt program policy p v y.sort before y.view = leaf_before program policy p v y.sort before y.view
        (subst (λ ss. LeafAt program policy p v y.sort ss y.view) o.sight_is
        (leaf_at program policy p v y y.sort ys hy.over o.no_leaf)) in
        let longer : (j : ℕ) (z : Sign) → slice_get before j ≡ Some z
        → slice_get y.run.sight j ≡ Some z = λ j z at. ap (λ ss. slice_get ss j) o.sight_is
        ∙ kept_at before (None ∷ []) j z at in
        let first = first_run y.sort y.run (runs_of ys) in
        let found : Answer program policy p rs
        (unwrap_or (found_over program policy p y.run.number l before)
        (begun_by program policy p y.run rest y.run.kind)) (parent_of program l y.view) =
        plain_answer program policy p v y before l longer y.sort ys rs (suc first.0) first.1 o.not_loop hy.over
        (λ zero_is z j at. (let k = below y.sort zero_is z j at in (suc k.0, k.1)))
        q_before call rest (rest_same y.sort (runs_of ys)) (begun_by program policy p y.run rest y.run.kind)
        (λ zero_is. refl) in
        let cut : take x.run.place y.run.sight ≡ before = ap (take x.run.place) o.sight_is
        ∙ take_at before (None ∷ []) x.run.place (sym o.place_is) in
        let parent : parent_of program l y.view ≡ option_or
        (of_outer (option_and_then (λ x. x.parent) (slice_get program.stmts l)) x.view.1) x.view.0 =
        ap (λ z. option_or z (option_or (of_outer (option_and_then (λ x. x.parent) (slice_get program.stmts l)) y.view.1) y.view.0))
        (none_run (kind_of program l) (latest l y.view.1)
        (quiet_at y.sort y.body y.run.sight y.view y.todo l o.not_loop hy.knows o.is_loop))
        ∙ ap (λ z. option_or z y.view.0) (sym
        (outer_same (option_and_then (λ x. x.parent) (slice_get program.stmts l))
        (λ i e. free_at y.sort l o.not_loop o.is_loop i (o.fact.outer i e).stands)))
        ∙ ap (λ z. option_or (of_outer (option_and_then (λ x. x.parent) (slice_get program.stmts l)) x.view.1) z) (sym o.call_is) in
        subst (λ c. Answer program policy p rs above c) parent
        (subst (λ zs. Answer program policy p rs (outside_over program policy p x.run.place zs l)
        (parent_of program l y.view)) (sym (runs_are y.sort y.run (runs_of ys)))
        (subst (λ ss. Answer program policy p rs
        (unwrap_or (found_over program policy p y.run.number l ss)
        (begun_by program policy p y.run rest y.run.kind)) (parent_of program l y.view)) (sym cut) found))
      where
        below : (sort : Sort) → frame_of sort ≡ 0 → (z : Run) (j : ℕ) → slice_get (runs_of ys) j ≡ Some z → (k : ℕ)
            × (slice_get (runs_with sort y.run (runs_of ys)) k ≡ Some z)
        below process f z j at = (suc j, at)
        below function f z j at = (suc j, at)
        below leaf f z j at = absurd (omega (arith, f))
        below (loop m) f z j at = (suc j, at)

    abbrev pub Found : ℕ → Type 0
    Found s = Answer program policy p rs
        (unwrap_or (found_over program policy p x.run.number s x.run.sight)
        (above_over program policy p x.run (runs_of (y ∷ ys)) x.run.kind)) (parent_of program s x.view)

    -- where the statement round the loop was not tested since
    pub outer_answer : round_over program policy p x.run.number 0 x.run.sight
        (option_and_then (λ x. x.parent) (slice_get program.stmts l)) ≡ None → Found l
    outer_answer none =
        subst (λ k. Answer program policy p rs
        (unwrap_or (found_over program policy p x.run.number l x.run.sight)
        (above_over program policy p x.run (runs_of (y ∷ ys)) k)) (parent_of program l x.view)) (sym o.kind_is)
        (subst (λ call. Answer program policy p rs
        (unwrap_or (among_over program policy p x.run.number l x.run.sight call) above)
        (parent_of program l x.view)) (sym no_call)
        (answered program policy p rs x.run 0 x.run.sight (among_over program policy p x.run.number l x.run.sight None)
        (of_run (kind_of program l) (latest l x.view.1))
        (option_or (of_outer (option_and_then (λ x. x.parent) (slice_get program.stmts l)) x.view.1) x.view.0) above refl
        (λ j q at. at)
        (side_drop x.run.number x.run.sight (test_at program policy p v x.run.number 0 x.run.sight l)
        (round_over program policy p x.run.number 0 x.run.sight (option_and_then (λ x. x.parent) (slice_get program.stmts l)))
        (of_run (kind_of program l) (latest l x.view.1)) none
        (run_side program policy p x.run.number 0 x.run.sight x.view l
        (loop_again l o.home (in_own_loop program policy l))))
        above_answer))

    pub loop_answer : Found l
    loop_answer = by (option_and_then (λ x. x.parent) (slice_get program.stmts l)) refl
      where
        by : (parent : Option ℕ) → option_and_then (λ x. x.parent) (slice_get program.stmts l) ≡ parent → Found l
        by None e = outer_answer (ap (round_over program policy p x.run.number 0 x.run.sight) e)
        by (Some i) e =
            let outer = o.fact.outer i e in
            elim (known.met i (outer.home ∙ sym o.body_is) outer.choice) [
              | inl none ↦ outer_answer (ap (round_over program policy p x.run.number 0 x.run.sight) e
                  ∙ ap (option_map (λ t. origin.Item p x.run.number t.item)) none)
              | inr m ↦ inner_answer l i (above_over program policy p x.run (runs_of (y ∷ ys)) x.run.kind) o.home
                  (in_own_loop program policy l) e m
            ]

    -- a statement in the loop
    pub inside_answer : (s : ℕ) → Fact program policy p (loop l) x.body x.run.sight x.view s → Found s
    inside_answer s f = elim (within_cases program l s f.stands.0) [
      | inl same ↦ absurd (f.stands.1 same)
      | inr out ↦ (let parent : option_and_then (λ x. x.parent) (slice_get program.stmts s) ≡ Some out.outer = ap (option_and_then (λ (x : Stmt). x.parent)) out.there
          ∙ out.parent in
          inner_answer s out.outer (above_over program policy p x.run (runs_of (y ∷ ys)) x.run.kind) f.home f.stands.0
          parent (f.outer out.outer parent).met)
    ]

    pub end_answer : (s : ℕ) → s ≡ l → Found s
    end_answer s same = subst Found (sym same) loop_answer
