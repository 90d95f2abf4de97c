-- A return ends its level.
use Rattle.std.proofs.Common.{◌≡◌, ℕ, true, false, ◌&&◌, List, [], ◌∷◌, Some, None, refl, ap, sym, ◌∙◌, inr, arith}
use Rattle.std.specs.Prelude.{drop}
use Rattle.std.proofs.lemmas.Bool.{both_ways}
use Rattle.ppd_ast.specs.Valid.{IsValid}
use Rattle.ppd_ast.specs.declared.plan.BlockKind.{BlockKind}
use Rattle.ppd_ast.specs.declared.plan.Policy.{Policy}
use Rattle.ppd_ast.specs.declared.program.Program.{Program}
use Rattle.ppd_ast.specs.Lookups.{kind_of, body_of}
use Rattle.ppd_blocks.specs.Blocks.{plan_of}
use Rattle.ppd_sem.specs.declared.event.Event.{Event}
use Rattle.ppd_sem.specs.declared.proc.Todo.{Todo}
use Rattle.ppd_sem.specs.Runs.{returns}
use Rattle.ppd_model.specs.Parents.{is_choice}
use Rattle.ppd_model.proofs.CountedOn.{kept_at}
use Rattle.ppd_graph.specs.Locals.{begins_leaf}
use Rattle.law_flow.proofs.Control.KindDeeds.{return_no_call, return_no_choice, while_choice}
use Rattle.law_flow.proofs.Control.Sights.{Sign, leaf_ends, tests_other}
use Rattle.law_flow.proofs.Control.Statics.{block_loop_while}
use Rattle.law_flow.proofs.Control.Levels.{AllHold, EndsWith, Fact, Knows, Level, OfFunction, OfLeaf, OverNext, Plain, Run, Sort, frame_of, function, leaf, loop, process, runs_of, runs_with, todo_of, views_of}
use Rattle.law_flow.proofs.Control.Goes.{Goes, fact_on, facts_on, looping_on, plain_on}
use Rattle.law_flow.proofs.Control.AtLevel.{begins_no, me_of, sight_after}
use Rattle.law_flow.proofs.Control.Moved.{Moved, add, tested}

run_same : (r q : Run) (s : List Sign) → r.number ≡ q.number → r.kind ≡ q.kind → r.place ≡ q.place
    → record r { sight = s } ≡ record q { sight = s }
run_same r q s a b c =
    ap (λ (i : ℕ). record { number = i; kind = r.kind; place = r.place; sight = s }) a
    ∙ ap (λ (k : BlockKind). record { number = q.number; kind = k; place = r.place; sight = s }) b
    ∙ ap (λ (i : ℕ). record { number = q.number; kind = q.kind; place = i; sight = s }) c

other_runs : (sort : Sort) (r q : Run) (rs : List Run) → frame_of sort ≡ 0
    → r ∷ drop 1 (runs_with sort q rs) ≡ runs_with sort r rs
other_runs process r q rs h = refl
other_runs function r q rs h = refl
other_runs leaf r q rs h = refl
other_runs (loop l) r q rs h = refl

module _ (program : Program) (policy : Policy) (p : ℕ) (v : IsValid program) (x : Level) (t : Todo) (n : ℕ) (e : Event)
    (is : e.stmt ≡ t.stmt) (fine : e.trap ≡ None) where
  abbrev here : Level
  here = record x { todo = []; last = t ∷ [] }

  abbrev now : List Sign
  now = sight_after program policy p x.run.sight n e

  -- ---- a return

  module _ (y : Level) (ys : List Level) (hs : AllHold program policy p (y ∷ ys)) where
    pub returns_block : OfFunction program policy p x.body x.run.kind x.run.place x.view.0 y
        → Moved program policy p (todo_of (y ∷ ys))
        (drop 1 (tested program (me_of program policy p n) e (views_of (record here { sort = function } ∷ y ∷ ys))))
        (drop 1 (add (Some (n, e)) (runs_of (record here { sort = function } ∷ y ∷ ys))))
    returns_block o = record {
      levels = y ∷ ys;
      hold = hs;
      leaf = λ zero_is. o.no_leaf;
      todo_is = refl;
      now_is = refl;
      runs_is = refl;
    }

    module _ (o : OfLeaf program policy p x.body x.run x.view.0 y)
        (returning : returns (kind_of program t.stmt) ≡ true) where
      abbrev OfBody : ℕ → Type 0
      OfBody s = body_of program s ≡ y.body

      begins : begins_leaf program (plan_of program policy) e ≡ false
      begins = begins_no program (plan_of program policy) e
          (return_no_call (kind_of program e.stmt) (ap (λ i. returns (kind_of program i)) is ∙ returning))

      back_goes : Goes program policy p 0 OfBody y.run.sight y.view now y.view
      back_goes = record {
        each = λ s home choice. inr (
          tests_other program (plan_of program policy) 0 s n e x.run.sight (ap (λ b. b && false) begins)
              (λ same. both_ways (is_choice (kind_of program t.stmt))
              (return_no_choice (kind_of program t.stmt) returning)
              (ap (λ i. is_choice (kind_of program i)) (sym is ∙ same) ∙ choice))
              ∙ o.same s home choice,
          refl,
        );
        longer = λ j q there. kept_at x.run.sight (Some (n, e) ∷ []) j q (o.longer j q there);
      }

      plain_back : Plain program policy p 0 y.body y.run.sight y.view → Plain program policy p 0 y.body now y.view
      plain_back h =
          plain_on program policy p 0 OfBody y.run.sight y.view now y.view back_goes y.body (λ s home free. home)
          (λ l home block.
          tests_other program (plan_of program policy) 0 l n e x.run.sight (ap (λ b. b && false) begins)
          (λ same. both_ways (is_choice (kind_of program t.stmt)) (return_no_choice (kind_of program t.stmt) returning)
          (ap (λ i. is_choice (kind_of program i)) (sym is ∙ same)
          ∙ while_choice (kind_of program l) (block_loop_while program policy l block)))
          ∙ o.same l home (while_choice (kind_of program l) (block_loop_while program policy l block)))
          h.quiet h

      knows_back : (sort : Sort) → frame_of sort ≡ 0 → Knows program policy p sort y.body y.run.sight y.view y.todo
          → Knows program policy p sort y.body now y.view y.todo
      knows_back process f h = plain_back h
      knows_back function f h = plain_back h
      knows_back leaf f h = absurd (omega (arith, f))
      knows_back (loop l) f h = looping_on program policy p OfBody y.run.sight y.view now y.view back_goes l y.body
          y.todo y.todo (λ s home. home) h.runs h

      fact_back : (sort : Sort) → frame_of sort ≡ 0 → (s : ℕ) → Fact program policy p sort y.body y.run.sight y.view s
          → Fact program policy p sort y.body now y.view s
      fact_back sort f s h = fact_on program policy p 0 OfBody y.run.sight y.view now y.view back_goes sort y.body s
          (sym f) (λ i home stands. home) h

      ends_back : (sort : Sort) → frame_of sort ≡ 0 → EndsWith program policy p sort y.body y.run.sight y.view y.last
          → EndsWith program policy p sort y.body now y.view y.last
      ends_back process f h = h
      ends_back function f h = (h.0, h.1, h.2, h.3, fact_back function f h.0.stmt h.4)
      ends_back leaf f h = absurd (omega (arith, f))
      ends_back (loop l) f h = h

      over_back : (sort : Sort) (zs : List Level) → frame_of sort ≡ 0 → OverNext program policy p sort y zs
          → OverNext program policy p sort (record y { run = record y.run { sight = now } }) zs
      over_back process zs f h = h
      over_back function [] f h = h
      over_back function (z ∷ zs) f h = h
      over_back leaf zs f h = absurd (omega (arith, f))
      over_back (loop l) [] f h = h
      over_back (loop l) (z ∷ zs) f h = h

      pub returns_leaf : Moved program policy p (todo_of (y ∷ ys))
          (drop 1 (tested program (me_of program policy p n) e (views_of (record here { sort = leaf } ∷ y ∷ ys))))
          (add (Some (n, e)) (runs_of (record here { sort = leaf } ∷ y ∷ ys)))
      returns_leaf = record {
        levels = record y { run = record y.run { sight = now } } ∷ ys;
        hold = (
          record {
            knows = knows_back y.sort o.frame_is hs.0.knows;
            facts = facts_on program policy p 0 OfBody y.run.sight y.view now y.view back_goes y.sort y.body y.todo
                (sym o.frame_is) (λ i home stands. home) hs.0.facts;
            ends = ends_back y.sort o.frame_is hs.0.ends;
            over = over_back y.sort ys o.frame_is hs.0.over;
          },
          hs.1,
        );
        leaf = λ zero_is. leaf_ends program (plan_of program policy) n e x.run.sight begins
            (ap (λ i. returns (kind_of program i)) is ∙ returning);
        todo_is = refl;
        now_is = refl;
        runs_is = ap (λ r. r ∷ drop 1 (runs_with y.sort y.run (runs_of ys)))
            (run_same x.run y.run now o.number_is o.kind_is o.place_is)
            ∙ other_runs y.sort (record y.run { sight = now }) y.run (runs_of ys) o.frame_is;
      }
