-- A block loop goes on, or is left and ends its level.
use Rattle.std.proofs.Common.{◌≡◌, ℕ, true, false, ◌&&◌, List, [], ◌∷◌, ◌++◌, Some, None, refl, ap, sym, subst, ◌∙◌, inl, inr, true≢false}
use Rattle.std.specs.Prelude.{drop}
use Rattle.std.proofs.lemmas.Bool.{cases_Bool, cases_eq, ne_eqb}
use Rattle.ppd_ast.specs.Numbered.{is_while}
use Rattle.ppd_ast.specs.Valid.{IsValid}
use Rattle.ppd_ast.specs.declared.plan.Policy.{Policy}
use Rattle.ppd_ast.specs.declared.program.Program.{Program}
use Rattle.ppd_ast.specs.Lookups.{kind_of, body_of}
use Rattle.ppd_blocks.specs.Blocks.{plan_of}
use Rattle.ppd_sem.specs.declared.event.Event.{Event}
use Rattle.ppd_sem.specs.declared.proc.Todo.{Todo}
use Rattle.ppd_sem.specs.Process.{todos}
use Rattle.ppd_blocks.specs.Walk.{stands_in}
use Rattle.ppd_model.specs.FullTrace.{is_passed, latest}
use Rattle.ppd_model.specs.Parents.{is_choice}
use Rattle.ppd_model.proofs.TestSteps.{View, older}
use Rattle.law_flow.proofs.Control.KindDeeds.{while_choice}
use Rattle.law_flow.proofs.Control.Statics.{IsBlockLoop, in_own_loop}
use Rattle.law_flow.proofs.Control.Levels.{AllHold, EndsWith, Fact, Holds, Knows, Level, OfLoop, OuterAt, OverNext, Plain, Sort, TopLeaf, frame_of, function, leaf, loop, passes, process, runs_of, todo_of, views_of, views_with}
use Rattle.law_flow.proofs.Control.Goes.{Goes, fact_on, facts_on, plain_on, view_after}
use Rattle.law_flow.proofs.Control.AtLevel.{AtLevel, begins_no, me_of}
use Rattle.law_flow.proofs.Control.Events.{inner_facts}
use Rattle.law_flow.proofs.Control.InLevel.{unpassed}
use Rattle.law_flow.proofs.Control.Moved.{Moved, add, stays_top, tested}
use Rattle.law_flow.proofs.Control.Steps.{AreInside}
use Rattle.law_steps.proofs.OpenBlocks.DeedKinds.{while_stays}
use Rattle.law_flow.proofs.Places.Calling.{while_no_call}

other_views : (sort : Sort) (v w : View) (vs : List View) → ((m : ℕ) → sort ≡ loop m → ⊥)
    → v ∷ drop 1 (views_with sort w vs) ≡ views_with sort v vs
other_views process v w vs h = refl
other_views function v w vs h = refl
other_views leaf v w vs h = refl
other_views (loop l) v w vs h = absurd (h l refl)

module _ (program : Program) (policy : Policy) (p : ℕ) (v : IsValid program) (x : Level) (t : Todo) (n : ℕ) (e : Event)
    (is : e.stmt ≡ t.stmt) (fine : e.trap ≡ None) where
  abbrev here : Level
  here = record x { todo = []; last = t ∷ [] }

  abbrev seen : View
  seen = view_after program (me_of program policy p n) e x.view

  -- ---- a loop

  module _ (l : ℕ) (y : Level) (ys : List Level) where
    abbrev looping : Level
    looping = record here { sort = loop l }

    -- it goes on
    pub turns_again : Holds program policy p looping (y ∷ ys) → AllHold program policy p (y ∷ ys)
        → TopLeaf program policy p (looping ∷ y ∷ ys) → (stmts : List ℕ) → is_while (kind_of program t.stmt) ≡ true
        → AreInside program t.stmt stmts
        → Moved program policy p (todos stmts ++ t ∷ todo_of (y ∷ ys))
        (tested program (me_of program policy p n) e (views_of (looping ∷ y ∷ ys)))
        (add (Some (n, e)) (runs_of (looping ∷ y ∷ ys)))
    turns_again h hs top stmts w inside =
        let o : OfLoop program policy p l x.body x.run.kind x.run.place x.view y = h.over in
        let own : t.stmt ≡ l = ap first_stmt h.ends.1 ∙ h.ends.2 in
        let a : AtLevel program policy p looping t.stmt n e = record {
          is = is;
          fine = fine;
          home = ap (body_of program) own ∙ o.home;
          stands = subst (λ i. stands_in program i l ≡ true) (sym own) (in_own_loop program policy l);
          no_leaf = begins_no program (plan_of program policy) e
              (while_no_call (kind_of program e.stmt) (ap (λ i. is_while (kind_of program i)) is ∙ w));
          stays = while_stays (kind_of program t.stmt) w;
        } in
        let nothing : todos stmts ++ [] ≡ todos stmts = append_nil (todos stmts) in
        subst (λ todo. Moved program policy p (todo ++ t ∷ todo_of (y ∷ ys))
        (tested program (me_of program policy p n) e (views_of (looping ∷ y ∷ ys)))
        (add (Some (n, e)) (runs_of (looping ∷ y ∷ ys)))) nothing
        (stays_top program policy p v looping (y ∷ ys) h hs top t.stmt n e a (todos stmts ++ [])
        (record { own = λ is_loop other pass. absurd (other own); others = λ s differs is_loop has. absurd has })
        (inner_facts program policy p v looping t.stmt n e a (loop l) stmts [] a.stands
        (while_choice (kind_of program t.stmt) w) inside.0 inside.1 tt))
      where
        first_stmt : List Todo → ℕ
        first_stmt [] = 0
        first_stmt (u ∷ us) = u.stmt

        append_nil : {A : Type 0} (as' : List A) → as' ++ [] ≡ as'
        append_nil [] = refl
        append_nil (b ∷ bs) = ap (λ cs. b ∷ cs) (append_nil bs)

    -- it is left: the level below is as it was, but for the tests inside the loop
    module _ (o : OfLoop program policy p l x.body x.run.kind x.run.place x.view y) (own : t.stmt ≡ l)
        (w : is_while (kind_of program t.stmt) ≡ true) (fails : is_passed e.value ≡ false) where
      abbrev left : View
      left = (y.view.0, seen.1)

      abbrev Outside : ℕ → Type 0
      Outside s = stands_in program s l ≡ false

      same_test : (s : ℕ) → Outside s → latest s left.1 ≡ latest s y.view.1
      same_test s out =
          older (kind_of program e.stmt) e.stmt s (me_of program policy p n) e.value x.view.1
          (ap (λ b. b && is_choice (kind_of program e.stmt))
          (ne_eqb e.stmt s (λ same. true≢false
          (sym (in_own_loop program policy l) ∙ ap (λ i. stands_in program i l) (sym own ∙ sym is ∙ same)
          ∙ out))))
          ∙ o.same s out

      left_goes : (frame : ℕ) → Goes program policy p frame Outside y.run.sight y.view y.run.sight left
      left_goes frame = record { each = λ s out choice. inr (refl, same_test s out); longer = λ j q at. at }

      -- no run of a `while` in the loop goes on
      quiet_left : (frame : ℕ) → Knows program policy p (loop l) x.body x.run.sight x.view []
          → Plain program policy p frame y.body y.run.sight y.view
          → (s m : ℕ) → is_while (kind_of program s) ≡ true → IsBlockLoop program policy m
          → stands_in program s m ≡ true → passes (latest s left.1) ≡ false
      quiet_left frame known plain s m is_loop block inside = elim (cases_Bool (stands_in program s l)) [
        | inr out ↦ ap passes (same_test s out) ∙ plain.quiet s m is_loop block inside
        | inl in_loop ↦ elim (cases_eq s l) [
          | inl same ↦ subst (λ i. passes (latest i seen.1) ≡ false) (own ∙ sym same)
              (unpassed program x.view p n t.stmt e is (while_choice (kind_of program t.stmt) w) fails)
          | inr other ↦ elim (cases_Bool (passes (latest s seen.1))) [
            | inr no' ↦ no'
            | inl goes ↦ absurd (known.runs s is_loop in_loop other
                (sym (ap passes (older (kind_of program e.stmt) e.stmt s (me_of program policy p n) e.value x.view.1
                (ap (λ b. b && is_choice (kind_of program e.stmt))
                (ne_eqb e.stmt s (λ same. other (sym same ∙ is ∙ own)))))) ∙ goes))
          ]
        ]
      ]

      plain_left : (frame : ℕ) → Knows program policy p (loop l) x.body x.run.sight x.view []
          → Plain program policy p frame y.body y.run.sight y.view
          → Plain program policy p frame y.body y.run.sight left
      plain_left frame known h =
          plain_on program policy p frame Outside y.run.sight y.view y.run.sight left (left_goes frame) y.body
          (λ s home free. free l o.is_loop) (λ m home block. refl) (quiet_left frame known h) h

      knows_left : (sort : Sort) → ((m : ℕ) → sort ≡ loop m → ⊥)
          → Knows program policy p (loop l) x.body x.run.sight x.view []
          → Knows program policy p sort y.body y.run.sight y.view y.todo
          → Knows program policy p sort y.body y.run.sight left y.todo
      knows_left process none known h = plain_left 0 known h
      knows_left function none known h = plain_left 0 known h
      knows_left leaf none known h = plain_left 1 known h
      knows_left (loop m) none known h = absurd (none m refl)

      outer_out : (sort : Sort) → ((m : ℕ) → sort ≡ loop m → ⊥) → (i : ℕ) → OuterAt program policy p sort i → Outside i
      outer_out process none i h = h l o.is_loop
      outer_out function none i h = h l o.is_loop
      outer_out leaf none i h = h l o.is_loop
      outer_out (loop m) none i h = absurd (none m refl)

      fact_left : (sort : Sort) → ((m : ℕ) → sort ≡ loop m → ⊥) → (s : ℕ)
          → Fact program policy p sort y.body y.run.sight y.view s
          → Fact program policy p sort y.body y.run.sight left s
      fact_left sort none s h = fact_on program policy p (frame_of sort) Outside y.run.sight y.view y.run.sight left
          (left_goes (frame_of sort)) sort y.body s refl (λ i home stands. outer_out sort none i stands) h

      ends_left : (sort : Sort) → ((m : ℕ) → sort ≡ loop m → ⊥)
          → EndsWith program policy p sort y.body y.run.sight y.view y.last
          → EndsWith program policy p sort y.body y.run.sight left y.last
      ends_left process none h = h
      ends_left function none h = (h.0, h.1, h.2, h.3, fact_left function none h.0.stmt h.4)
      ends_left leaf none h = (h.0, h.1, h.2, h.3, fact_left leaf none h.0.stmt h.4)
      ends_left (loop m) none h = absurd (none m refl)

      over_left : (sort : Sort) (zs : List Level) → ((m : ℕ) → sort ≡ loop m → ⊥) → OverNext program policy p sort y zs
          → OverNext program policy p sort (record y { view = left }) zs
      over_left process zs none h = h
      over_left function [] none h = h
      over_left function (z ∷ zs) none h = h
      over_left leaf [] none h = h
      over_left leaf (z ∷ zs) none h = h
      over_left (loop m) zs none h = absurd (none m refl)

      pub leaves_loop : Knows program policy p (loop l) x.body x.run.sight x.view []
          → AllHold program policy p (y ∷ ys)
          → Moved program policy p (todo_of (y ∷ ys))
          (tested program (me_of program policy p n) e (views_of (looping ∷ y ∷ ys)))
          (drop 1 (add (Some (n, e)) (runs_of (looping ∷ y ∷ ys))))
      leaves_loop known hs = record {
        levels = record y { view = left } ∷ ys;
        hold = (
          record {
            knows = knows_left y.sort o.not_loop known hs.0.knows;
            facts = facts_on program policy p (frame_of y.sort) Outside y.run.sight y.view y.run.sight left
                (left_goes (frame_of y.sort)) y.sort y.body y.todo refl
                (λ i home stands. outer_out y.sort o.not_loop i stands) hs.0.facts;
            ends = ends_left y.sort o.not_loop hs.0.ends;
            over = over_left y.sort ys o.not_loop hs.0.over;
          },
          hs.1,
        );
        leaf = o.no_leaf;
        todo_is = refl;
        now_is = ap (λ call. (call, seen.1) ∷ drop 1 (views_with y.sort y.view (views_of ys))) o.call_is
            ∙ other_views y.sort left y.view (views_of ys) o.not_loop;
        runs_is = refl;
      }
