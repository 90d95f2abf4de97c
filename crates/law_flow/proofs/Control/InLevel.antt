-- Steps of a statement that is to do in the top level, but calls and entries of loops: the level stays the top one.
use Rattle.std.proofs.Common.{◌≡◌, ℕ, true, false, List, [], ◌∷◌, ◌++◌, Some, None, refl, ap, sym, subst, ◌∙◌, inl, inr}
use Rattle.std.specs.Prelude.{nat_eq}
use Rattle.std.proofs.lemmas.Bool.{and_from, both_ways, eq-eqb}
use Rattle.ppd_ast.specs.Numbered.{is_call, is_while}
use Rattle.ppd_ast.specs.Valid.{IsValid}
use Rattle.ppd_ast.specs.declared.plan.BlockKind.TheVariants as block
use Rattle.ppd_ast.specs.declared.plan.Policy.{Policy}
use Rattle.ppd_ast.specs.declared.program.Program.{Program}
use Rattle.ppd_ast.specs.Lookups.{kind_of}
use Rattle.ppd_blocks.specs.Blocks.{plan_of}
use Rattle.ppd_sem.specs.declared.event.Event.{Event}
use Rattle.ppd_sem.specs.declared.proc.Todo.{Todo}
use Rattle.ppd_sem.specs.Process.{todos}
use Rattle.ppd_sem.specs.Runs.{returns}
use Rattle.ppd_sem.specs.Tables.{block_of}
use Rattle.ppd_model.specs.FullTrace.{is_passed, latest}
use Rattle.ppd_model.specs.Parents.{is_choice}
use Rattle.ppd_model.proofs.TestSteps.{View, newest}
use Rattle.law_flow.proofs.Control.KindDeeds.{IsSimple, choice_no_call, while_choice}
use Rattle.law_flow.proofs.Control.Levels.{AllHold, Facts, Fact, Has, Holds, Level, TopLeaf, passes, runs_of, todo_of, views_of}
use Rattle.law_flow.proofs.Control.Goes.{view_after}
use Rattle.law_flow.proofs.Control.AtLevel.{AtLevel, begins_no, me_of, sight_after}
use Rattle.law_flow.proofs.Control.Events.{facts_event, inner_facts}
use Rattle.law_flow.proofs.Control.Moved.{Moved, add, may_test, no_block, no_while, stays_top, still_after, tested}
use Rattle.law_flow.proofs.Control.Steps.{AreInside}
use Rattle.law_flow.proofs.Places.Calling.{while_no_call}

-- one of later ones
pub has_later : (s : ℕ) (xs ys : List Todo) → Has s ys → Has s (xs ++ ys)
has_later s [] ys h = h
has_later s (x ∷ xs) ys h = inr (has_later s xs ys h)

-- the test of a statement that did not pass
pub unpassed : (program : Program) (v : View) (p n t : ℕ) (e : Event) → e.stmt ≡ t
    → is_choice (kind_of program t) ≡ true → is_passed e.value ≡ false
    → passes (latest t (view_after program (record { process = p; number = n }) e v).1) ≡ false
unpassed program v p n t e is choice fails =
    ap passes (newest (kind_of program e.stmt) e.stmt t (record { process = p; number = n }) e.value v.1
    (and_from (nat_eq e.stmt t) (is_choice (kind_of program e.stmt)) (eq-eqb e.stmt t is)
    (ap (λ i. is_choice (kind_of program i)) is ∙ choice)))
    ∙ fails

module _ (program : Program) (policy : Policy) (p : ℕ) (v : IsValid program) (x : Level) (xs : List Level) (t : Todo)
    (ys : List Todo) (n : ℕ) (e : Event) (is : e.stmt ≡ t.stmt) (fine : e.trap ≡ None) where
  abbrev here : Level
  here = record x { todo = t ∷ ys }

  abbrev After : List Todo → Type 0
  After todo = Moved program policy p (todo ++ (x.last ++ todo_of xs))
      (tested program (me_of program policy p n) e (views_of (here ∷ xs))) (add (Some (n, e)) (runs_of (here ∷ xs)))

  module _ (h : Holds program policy p here xs) (hs : AllHold program policy p xs)
      (top : TopLeaf program policy p (here ∷ xs)) where
    pub at : block_of (plan_of program policy) (block.Loop t.stmt) ≡ None → is_call (kind_of program t.stmt) ≡ false
        → AtLevel program policy p here t.stmt n e
    at none no_call = record {
      is = is;
      fine = fine;
      home = h.facts.0.0.home;
      stands = may_test program policy p x.sort t.stmt h.facts.0.0.stands none;
      no_leaf = begins_no program (plan_of program policy) e (ap (λ i. is_call (kind_of program i)) is ∙ no_call);
      stays = h.facts.0.1.0;
    }

    simple_none : IsSimple (kind_of program t.stmt) → block_of (plan_of program policy) (block.Loop t.stmt) ≡ None
    simple_none simple = no_block program policy p t.stmt (no_while program policy p t.stmt simple.0)

    -- the statement is done
    pub passing : IsSimple (kind_of program t.stmt) → After ys
    passing simple =
        let a : AtLevel program policy p here t.stmt n e = at (simple_none simple) simple.2 in
        stays_top program policy p v here xs h hs top t.stmt n e a ys
        (still_after program policy p v here t.stmt n e a t ys ys refl
        (λ w pass. absurd (both_ways (is_while (kind_of program t.stmt))
        (no_while program policy p t.stmt simple.0) w)) (λ s has. has) x.sort)
        (facts_event program policy p v here t.stmt n e a x.sort ys h.facts.1)

    -- it is still to do
    pub offering : (u : Todo) → u.stmt ≡ t.stmt → u.entered ≡ t.entered → IsSimple (kind_of program t.stmt)
        → After (u ∷ ys)
    offering u same mark simple =
        let a : AtLevel program policy p here t.stmt n e = at (simple_none simple) simple.2 in
        let facts : Facts program policy p x.sort x.body (sight_after program policy p x.run.sight n e)
        (view_after program (me_of program policy p n) e x.view) (t ∷ ys) =
        facts_event program policy p v here t.stmt n e a x.sort (t ∷ ys) h.facts in
        stays_top program policy p v here xs h hs top t.stmt n e a (u ∷ ys)
        (still_after program policy p v here t.stmt n e a t ys (u ∷ ys) refl (λ w pass. inl same)
        (λ s has. inr has) x.sort) (
          (
            subst (λ i. Fact program policy p x.sort x.body (sight_after program policy p x.run.sight n e)
                (view_after program (me_of program policy p n) e x.view) i) (sym same) facts.0.0,
            (ap (λ i. returns (kind_of program i)) same ∙ facts.0.1.0, mark ∙ facts.0.1.1),
          ),
          facts.1,
        )

    -- a loop that is no block ends
    pub stopping : is_while (kind_of program t.stmt) ≡ true
        → block_of (plan_of program policy) (block.Loop t.stmt) ≡ None → is_passed e.value ≡ false → After ys
    stopping w none fails =
        let a : AtLevel program policy p here t.stmt n e = at none (while_no_call (kind_of program t.stmt) w) in
        stays_top program policy p v here xs h hs top t.stmt n e a ys
        (still_after program policy p v here t.stmt n e a t ys ys refl
        (λ is_loop pass. absurd (both_ways
        (passes (latest t.stmt (view_after program (me_of program policy p n) e x.view).1))
        (unpassed program x.view p n t.stmt e is (while_choice (kind_of program t.stmt) w) fails) pass))
        (λ s has. has) x.sort)
        (facts_event program policy p v here t.stmt n e a x.sort ys h.facts.1)

    -- a branch is taken
    pub choosing : (stmts : List ℕ) → is_choice (kind_of program t.stmt) ≡ true
        → is_while (kind_of program t.stmt) ≡ false → AreInside program t.stmt stmts → After (todos stmts ++ ys)
    choosing stmts choice isnt inside =
        let a : AtLevel program policy p here t.stmt n e = at (no_block program policy p t.stmt isnt)
        (choice_no_call (kind_of program t.stmt) choice) in
        stays_top program policy p v here xs h hs top t.stmt n e a (todos stmts ++ ys)
        (still_after program policy p v here t.stmt n e a t ys (todos stmts ++ ys) refl
        (λ w pass. absurd (both_ways (is_while (kind_of program t.stmt)) isnt w))
        (λ s has. has_later s (todos stmts) ys has) x.sort)
        (inner_facts program policy p v here t.stmt n e a x.sort stmts ys a.stands choice inside.0 inside.1
        (facts_event program policy p v here t.stmt n e a x.sort ys h.facts.1))

    -- a loop that is no block goes on
    pub turning : (stmts : List ℕ) → is_while (kind_of program t.stmt) ≡ true
        → block_of (plan_of program policy) (block.Loop t.stmt) ≡ None → AreInside program t.stmt stmts
        → After (todos stmts ++ t ∷ ys)
    turning stmts w none inside =
        let a : AtLevel program policy p here t.stmt n e = at none (while_no_call (kind_of program t.stmt) w) in
        stays_top program policy p v here xs h hs top t.stmt n e a (todos stmts ++ t ∷ ys)
        (still_after program policy p v here t.stmt n e a t ys (todos stmts ++ t ∷ ys) refl
        (λ is_loop pass. has_later t.stmt (todos stmts) (t ∷ ys) (inl refl))
        (λ s has. has_later s (todos stmts) (t ∷ ys) (inr has)) x.sort)
        (inner_facts program policy p v here t.stmt n e a x.sort stmts (t ∷ ys) a.stands
        (while_choice (kind_of program t.stmt) w) inside.0 inside.1
        (facts_event program policy p v here t.stmt n e a x.sort (t ∷ ys) h.facts))
