-- The entry of a block loop: a new level begins over the top one.
use Rattle.std.proofs.Common.{◌≡◌, ℕ, true, List, [], ◌∷◌, ◌++◌, Some, None, refl, ap, sym, ◌∙◌, inl, true≢false}
use Rattle.std.specs.Prelude.{drop, is_some}
use Rattle.ppd_ast.specs.Valid.{IsValid}
use Rattle.ppd_ast.specs.declared.plan.BlockKind.TheVariants as block
use Rattle.ppd_ast.specs.declared.plan.Policy.{Policy}
use Rattle.ppd_ast.specs.declared.program.Program.{Program}
use Rattle.ppd_blocks.specs.Blocks.{plan_of}
use Rattle.law_steps.proofs.OpenBlocks.Planned.{kind_is}
use Rattle.ppd_sem.specs.Blocks.{block_kind}
use Rattle.ppd_sem.specs.declared.proc.Todo.{Todo}
use Rattle.ppd_sem.specs.Tables.{block_of}
use Rattle.ppd_model.proofs.TestSteps.{View}
use Rattle.law_flow.proofs.Control.Sights.{leaf_nested}
use Rattle.law_flow.proofs.Control.Statics.{IsBlockLoop}
use Rattle.law_flow.proofs.Control.Levels.{AllHold, Holds, Level, Sort, TopLeaf, function, leaf, loop, process, runs_of, todo_of, views_of, views_with}
use Rattle.law_flow.proofs.Control.Moved.{Moved, add_runs, items_in, items_runs, opens}
use Rattle.law_flow.proofs.Control.Opening.{CanGo, entered_from, fact_nested, holds_done, holds_nested, with_nested}

loop_views : (sort : Sort) (v : View) (vs : List View) → views_with sort v vs ≡ v ∷ drop 1 (views_with sort v vs)
loop_views process v vs = refl
loop_views function v vs = refl
loop_views leaf v vs = refl
loop_views (loop l) v vs = refl

module _ (program : Program) (policy : Policy) (p : ℕ) (v : IsValid program) (x : Level) (xs : List Level) (t : Todo)
    (ys : List Todo)
    (h : Holds program policy p (record x { todo = t ∷ ys }) xs) (hs : AllHold program policy p xs)
    (top : TopLeaf program policy p (record x { todo = t ∷ ys } ∷ xs)) where
  abbrev here : Level
  here = record x { todo = t ∷ ys }

  abbrev rest : List Todo
  rest = ys ++ (x.last ++ todo_of xs)

  -- ---- the entry of a loop

  pub enters_loop : (b number : ℕ) → block_of (plan_of program policy) (block.Loop t.stmt) ≡ Some b
      → Moved program policy p (record t { entered = true } ∷ rest) (views_of (here ∷ xs))
      (opens number (block_kind (plan_of program policy) b) (runs_of (here ∷ xs)))
  enters_loop b number some =
      let is_loop : IsBlockLoop program policy t.stmt = ap is_some some in
      let from = entered_from program policy p here t.stmt is_loop x.sort xs h.facts.0.0.stands h.over in
      let plain = from.1 h.knows in
      let y : Level = record x { todo = ys } in
      let y_holds : Holds program policy p y xs = holds_done program policy p x t ys xs (can_go x.sort from.0) h in
      record {
        levels = record {
          sort = loop t.stmt;
          body = x.body;
          run =
              record {
                number = number;
                kind = block_kind (plan_of program policy) b;
                place = items_in
                    (runs_of (here ∷ xs));
                sight = [];
              };
          view = x.view;
          todo = [];
          last = record t { entered = true }
              ∷ [];
        }
            ∷ with_nested program policy p y ∷ xs;
        hold = (
          record {
            knows = record {
              met = λ s home choice. inl refl;
              quiet = λ s home w inside none. plain.quiet s t.stmt w is_loop inside;
              runs = λ s w inside other pass. absurd (true≢false (sym pass ∙ plain.quiet s t.stmt w is_loop inside));
            };
            facts = tt;
            ends = (record t { entered = true }, refl, refl, refl);
            over = record {
              is_loop = is_loop;
              kind_is = kind_is program policy (block.Loop t.stmt) b some;
              body_is = refl;
              home = h.facts.0.0.home;
              before = x.run.sight;
              sight_is = refl;
              place_is = items_runs x.sort x.run (runs_of xs);
              call_is = refl;
              same = λ s out. refl;
              fact = fact_nested program policy p here x.sort t.stmt h.facts.0.0;
              no_leaf = λ zero_is. leaf_nested program (plan_of program policy) x.run.sight ∙ top zero_is;
              not_loop = from.0;
            };
          },
          (holds_nested program policy p y xs y_holds, hs),
        );
        leaf = λ zero_is. refl;
        todo_is = refl;
        now_is = loop_views x.sort x.view (views_of xs);
        runs_is = ap (λ rs. record {
          number = number;
          kind = block_kind (plan_of program policy) b;
          place = items_in
              (runs_of (here ∷ xs));
          sight = [];
        } ∷ rs) (add_runs None x.sort x.run (runs_of xs));
      }
    where
      can_go : (sort : Sort) → ((m : ℕ) → sort ≡ loop m → ⊥) → CanGo program policy p sort t.stmt
      can_go process none = tt
      can_go function none = tt
      can_go leaf none = tt
      can_go (loop l) none = absurd (none l refl)
