-- Calls: a new level begins over the top one.
use Rattle.std.proofs.Common.{◌≡◌, ℕ, suc, true, false, ◌&&◌, List, [], ◌∷◌, ◌++◌, Some, None, refl, ap, sym, ◌∙◌, length, length-append, inl, arith, true≢false, append_assoc}
use Rattle.std.specs.Prelude.{drop, is_some, nat_eq, not}
use Rattle.std.proofs.lemmas.Bool.{both_ways}
use Rattle.ppd_ast.specs.Numbered.{is_while}
use Rattle.ppd_ast.specs.Valid.{IsValid}
use Rattle.ppd_ast.specs.declared.plan.BlockKind.TheVariants as block
use Rattle.ppd_ast.specs.declared.plan.Plan.{Plan}
use Rattle.ppd_ast.specs.declared.plan.Policy.{Policy}
use Rattle.ppd_ast.specs.declared.program.Kind.{Kind}
use Rattle.ppd_ast.specs.declared.program.Kind.TheVariants as kind
use Rattle.ppd_ast.specs.declared.program.Program.{Program}
use Rattle.ppd_ast.specs.Lookups.{kind_of, body_numbered}
use Rattle.law_steps.specs.Beside.Relation.{IsCallOf}
use Rattle.ppd_blocks.specs.Blocks.{plan_of}
use Rattle.law_steps.proofs.Facts.Placed.{IsCallee, callee}
use Rattle.law_steps.proofs.OpenBlocks.Planned.{kind_is}
use Rattle.ppd_sem.specs.Blocks.{block_kind}
use Rattle.ppd_sem.specs.declared.event.Event.{Event}
use Rattle.ppd_sem.specs.declared.proc.Todo.{Todo}
use Rattle.ppd_sem.specs.Process.{todos}
use Rattle.ppd_sem.specs.Runs.{returns}
use Rattle.ppd_sem.specs.Tables.{block_of}
use Rattle.ppd_model.specs.declared.trace.EventId.{EventId}
use Rattle.ppd_model.specs.FullTrace.{tests_after}
use Rattle.ppd_model.specs.Parents.{is_choice}
use Rattle.ppd_model.proofs.Homes.{AreTop as AreTopOf}
use Rattle.ppd_model.proofs.Moves.{AreTop}
use Rattle.ppd_model.proofs.TestSteps.{View}
use Rattle.ppd_model.proofs.CountedOn.{kept_at, last_at}
use Rattle.ppd_graph.specs.Locals.{begins_leaf, is_leaf_call}
use Rattle.law_flow.proofs.Control.KindDeeds.{calls_simply}
use Rattle.law_flow.proofs.Control.Sights.{Sign, leaf_begins, leaf_nested, tests_call, tests_other}
use Rattle.law_flow.proofs.Control.Levels.{AllHold, Holds, Level, Run, Sort, TopLeaf, frame_of, function, leaf, loop, process, runs_of, runs_with, todo_of, views_of, views_with}
use Rattle.law_flow.proofs.Control.Goes.{view_after}
use Rattle.law_flow.proofs.Control.AtLevel.{AtLevel, me_of, sight_after, with_event}
use Rattle.law_flow.proofs.Control.Events.{facts_event}
use Rattle.law_flow.proofs.Control.Moved.{Moved, add, add_runs, holds_event, items_in, items_runs, leaf_same, may_test, no_block, no_while, opens, still_after, tested, tested_views}
use Rattle.law_flow.proofs.Control.Opening.{TopSplit, called_from, calling_is_block, can_simply, holds_done, holds_nested, top_split, with_nested}

-- a call without an interval
leaf_kind : (plan : Plan) (k : Kind) (f : ℕ) → IsCallOf k f
    → is_leaf_call plan k ≡ not (is_some (block_of plan (block.Function f)))
leaf_kind plan (kind.Call g arguments into) f h = ap (λ i. not (is_some (block_of plan (block.Function i)))) (sym h)
leaf_kind plan k f h = absurd h

-- what is no choice is no test
same_tests : (program : Program) (e : Event) (v : View) (me : EventId) → is_choice (kind_of program e.stmt) ≡ false
    → view_after program me e v ≡ v
same_tests program e v me isnt = ap (λ tests. (v.0, tests)) (by (kind_of program e.stmt) isnt)
  where
    by : (k : Kind) → is_choice k ≡ false → tests_after k e.stmt me e.value v.1 ≡ v.1
    by (kind.If x first second) h = absurd (true≢false h)
    by (kind.While x body) h = absurd (true≢false h)
    by k h = refl

leaf_runs : (sort : Sort) (r q : Run) (rs : List Run) → frame_of sort ≡ 0
    → runs_with sort r rs ≡ r ∷ drop 1 (runs_with sort q rs)
leaf_runs process r q rs h = refl
leaf_runs function r q rs h = refl
leaf_runs leaf r q rs h = refl
leaf_runs (loop l) r q rs h = refl

module _ (program : Program) (policy : Policy) (p : ℕ) (v : IsValid program) (x : Level) (xs : List Level) (t : Todo)
    (ys : List Todo)
    (h : Holds program policy p (record x { todo = t ∷ ys }) xs) (hs : AllHold program policy p xs)
    (top : TopLeaf program policy p (record x { todo = t ∷ ys } ∷ xs)) where
  abbrev here : Level
  here = record x { todo = t ∷ ys }

  abbrev rest : List Todo
  rest = ys ++ (x.last ++ todo_of xs)

  module _ (n : ℕ) (e : Event) (is : e.stmt ≡ t.stmt) (fine : e.trap ≡ None) (f : ℕ)
      (calls : IsCallOf (kind_of program t.stmt) f)
      (tops : AreTop program (body_numbered program f).top)
      (homes : AreTopOf program f (body_numbered program f).top) where
    frame_zero : frame_of x.sort ≡ 0
    frame_zero = called_from program policy p here t.stmt f v calls h.facts.0.0.home x.sort xs h.over

    simple : (is_choice (kind_of program t.stmt) ≡ false) × (returns (kind_of program t.stmt) ≡ false)
    simple = calls_simply (kind_of program t.stmt) f calls

    same_view : view_after program (me_of program policy p n) e x.view ≡ x.view
    same_view = same_tests program e x.view (me_of program policy p n)
        (ap (λ i. is_choice (kind_of program i)) is ∙ simple.0)

    called_leaf : begins_leaf program (plan_of program policy) e ≡ not
        (is_some (block_of (plan_of program policy) (block.Function f)))
    called_leaf =
        ap (λ o. not (is_some o) && is_leaf_call (plan_of program policy) (kind_of program e.stmt)) fine
        ∙ ap (λ i. is_leaf_call (plan_of program policy) (kind_of program i)) is
        ∙ leaf_kind (plan_of program policy) (kind_of program t.stmt) f calls

    -- the levels below the new one have this to do
    todos_are : (first : List Todo) (last : Todo) → todos (body_numbered program f).top ≡ first ++ last ∷ []
        → todos (body_numbered program f).top ++ rest ≡ first ++ (last ∷ rest)
    todos_are first last e = ap (λ ts. ts ++ rest) e ∙ append_assoc first (last ∷ []) rest

    -- ---- a call without an interval

    pub calls_leaf : block_of (plan_of program policy) (block.Function f) ≡ None
        → Moved program policy p (todos (body_numbered program f).top ++ rest)
        ((Some (me_of program policy p n), []) ∷ tested program (me_of program policy p n) e (views_of (here ∷ xs)))
        (add (Some (n, e)) (runs_of (here ∷ xs)))
    calls_leaf none =
        let sight : List Sign = sight_after program policy p x.run.sight n e in
        let view : View = (Some (me_of program policy p n), []) in
        let begins : begins_leaf program (plan_of program policy) e ≡ true = called_leaf
        ∙ ap (λ o. not (is_some o)) none in
        let split : TopSplit program policy p leaf f sight view
        (body_numbered program f).top = top_split program policy p leaf f sight view
        (body_numbered program f).top (λ j c. c) tops homes in
        let found : IsCallee program f = callee program t.stmt f v calls in
        let other : (s : ℕ) → is_choice (kind_of program s) ≡ true → e.stmt ≡ s
        → ⊥ = λ s choice same. both_ways (is_choice (kind_of program t.stmt)) simple.0
        (ap (λ i. is_choice (kind_of program i)) (sym is ∙ same) ∙ choice) in
        let frame_none : (begins_leaf program (plan_of program policy) e && nat_eq 0 1) ≡ false = ap
        (λ b. b && false) begins in
        record {
          levels = record {
            sort = leaf;
            body = f;
            run = record x.run { sight = sight };
            view = view;
            todo =
                split.first;
            last = split.last ∷ [];
          } ∷ record x { todo = ys } ∷ xs;
          hold = (
            record {
              knows = record {
                free = λ s home choice free. inl
                    (tests_call program (plan_of program policy) s n e x.run.sight begins, refl);
                unfound = λ l home is_loop. tests_call program (plan_of program policy) l n e x.run.sight begins;
                quiet = λ s l w is_loop inside. refl;
              };
              facts = split.facts;
              ends = (split.last, refl, split.returning, split.unmarked, split.fact);
              over = record {
                call = record { item = length x.run.sight; stmt = e.stmt };
                leaf_is = leaf_begins program (plan_of program policy) n e x.run.sight begins;
                number = n;
                event = e;
                there = last_at x.run.sight (Some (n, e));
                called = refl;
                frame_is = frame_zero;
                number_is = refl;
                kind_is = refl;
                place_is = refl;
                longer = λ j q there. kept_at x.run.sight (Some (n, e) ∷ []) j q there;
                same = λ s home choice. tests_other program (plan_of program policy) 0 s n e x.run.sight frame_none
                    (other s choice);
                other = λ same. true≢false (sym
                    (calling_is_block program policy p t.stmt f f v calls (h.facts.0.0.home ∙ sym same) found.function)
                    ∙ ap is_some none);
                no_block = none;
                low = found.function;
              };
            },
            (
              holds_done program policy p x t ys xs
                  (can_simply program policy p x.sort t.stmt (no_while program policy p t.stmt simple.0)) h,
              hs,
            ),
          );
          leaf = λ one. absurd (omega (arith, one));
          todo_is = todos_are split.first split.last split.todos_are;
          now_is = ap (λ vs. view ∷ vs) (tested_views program (me_of program policy p n) e x.sort x.view (views_of xs)
              ∙ ap (λ w. views_with x.sort w (views_of xs)) same_view);
          runs_is = add_runs (Some (n, e)) x.sort x.run (runs_of xs)
              ∙ leaf_runs x.sort (record x.run { sight = sight }) x.run (runs_of xs) frame_zero;
        }

    -- ---- a call of a block

    pub calls_block : (b number : ℕ) → block_of (plan_of program policy) (block.Function f) ≡ Some b
        → Moved program policy p (todos (body_numbered program f).top ++ rest)
        ((Some (me_of program policy p n), []) ∷ tested program (me_of program policy p n) e (views_of (here ∷ xs)))
        (opens number (block_kind (plan_of program policy) b) (add (Some (n, e)) (runs_of (here ∷ xs))))
    calls_block b number some =
        let view : View = (Some (me_of program policy p n), []) in
        let begins : begins_leaf program (plan_of program policy) e ≡ false = called_leaf
        ∙ ap (λ o. not (is_some o)) some in
        let split : TopSplit program policy p function f [] view
        (body_numbered program f).top = top_split program policy p function f [] view
        (body_numbered program f).top (λ j c. c) tops homes in
        let isnt : is_while (kind_of program t.stmt) ≡ false = no_while program policy p t.stmt simple.0 in
        let a : AtLevel program policy p here t.stmt n e = record {
          is = is;
          fine = fine;
          home = h.facts.0.0.home;
          stands = may_test program policy p x.sort t.stmt h.facts.0.0.stands (no_block program policy p t.stmt isnt);
          no_leaf = begins;
          stays = simple.1;
        } in
        let y : Level = with_event program policy p here n e ys in
        let y_holds : Holds program policy p y xs = holds_event program policy p v here xs h hs top t.stmt n e a ys
        (still_after program policy p v here t.stmt n e a t ys ys refl
        (λ w pass. absurd (both_ways (is_while (kind_of program t.stmt)) isnt w)) (λ s has. has) x.sort)
        (facts_event program policy p v here t.stmt n e a x.sort ys h.facts.1) in
        let first_runs : add (Some (n, e)) (runs_of (here ∷ xs)) ≡ runs_with x.sort y.run (runs_of xs) = add_runs
        (Some (n, e)) x.sort x.run (runs_of xs) in
        let place : ℕ = items_in (add (Some (n, e)) (runs_of (here ∷ xs))) in
        let place_is : place ≡ suc (length x.run.sight) = ap items_in first_runs ∙ items_runs x.sort y.run (runs_of xs)
        ∙ length-append x.run.sight (Some (n, e) ∷ []) ∙ omega arith in
        record {
          levels = record {
            sort = function;
            body = f;
            run =
                record { number = number; kind = block_kind (plan_of program policy) b; place = place; sight = [] };
            view = view;
            todo = split.first;
            last = split.last ∷ [];
          }
              ∷ with_nested program policy p y ∷ xs;
          hold = (
            record {
              knows = record {
                free = λ s home choice free. inl (refl, refl);
                unfound = λ l home is_loop. refl;
                quiet = λ s l w is_loop inside. refl;
              };
              facts = split.facts;
              ends = (split.last, refl, split.returning, split.unmarked, split.fact);
              over = record {
                function = f;
                kind_is = kind_is program policy (block.Function f) b some;
                before = x.run.sight;
                number = n;
                event = e;
                called = refl;
                sight_is = refl;
                place_is = place_is;
                no_leaf = leaf_nested program (plan_of program policy) y.run.sight
                    ∙ leaf_same program policy p v here xs h hs top t.stmt n e a ∙ top frame_zero;
                frame_is = frame_zero;
                is_block = ap is_some some;
              };
            },
            (holds_nested program policy p y xs y_holds, hs),
          );
          leaf = λ zero_is. refl;
          todo_is = todos_are split.first split.last split.todos_are;
          now_is = ap (λ vs. view ∷ vs) (tested_views program (me_of program policy p n) e x.sort x.view
              (views_of xs));
          runs_is = ap (λ rs. record {
            number = number;
            kind = block_kind
                (plan_of program policy) b;
            place = place;
            sight = [];
          } ∷ rs)
              (ap (add None) first_runs ∙ add_runs None x.sort y.run (runs_of xs));
        }
