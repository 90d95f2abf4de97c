-- What a step leaves: the levels after it, with what is to do, the activations and the running intervals.
use Rattle.std.proofs.Common.{◌≡◌, ℕ, Bool, true, false, List, [], ◌∷◌, ◌++◌, Option, Some, None, refl, ap, sym, ◌∙◌, length, inl, inr}
use Rattle.std.specs.Prelude.{drop, is_some}
use Rattle.std.proofs.lemmas.Bool.{both_ways, cases_Bool}
use Rattle.ppd_ast.specs.Numbered.{is_while}
use Rattle.ppd_ast.specs.Valid.{IsValid}
use Rattle.ppd_ast.specs.declared.plan.BlockKind.{BlockKind}
use Rattle.ppd_ast.specs.declared.plan.BlockKind.TheVariants as block
use Rattle.ppd_ast.specs.declared.plan.Plan.{Plan}
use Rattle.ppd_ast.specs.declared.plan.Policy.{Policy}
use Rattle.ppd_ast.specs.declared.program.Program.{Program}
use Rattle.ppd_ast.specs.Lookups.{kind_of}
use Rattle.ppd_blocks.specs.Blocks.{plan_of}
use Rattle.ppd_sem.specs.Blocks.{block_kind}
use Rattle.ppd_sem.specs.declared.event.Event.{Event}
use Rattle.ppd_sem.specs.declared.proc.Todo.{Todo}
use Rattle.ppd_sem.specs.Runs.{returns}
use Rattle.ppd_sem.specs.Tables.{block_of}
use Rattle.ppd_model.specs.declared.trace.EventId.{EventId}
use Rattle.ppd_model.specs.FullTrace.{latest}
use Rattle.ppd_model.specs.Marks.{Mark}
use Rattle.ppd_model.specs.Parents.{is_choice}
use Rattle.ppd_model.proofs.TestSteps.{View}
use Rattle.law_flow.proofs.Control.KindDeeds.{while_choice}
use Rattle.law_flow.proofs.Control.Sights.{Sign, leaf_goes, leaf_over}
use Rattle.law_flow.proofs.Control.Statics.{block_loop_while, calm_free}
use Rattle.law_flow.proofs.Control.Levels.{AllHold, Facts, Has, Holds, Level, OverNext, Run, Sort, StandsAt, TopLeaf, function, leaf, loop, passes, process, runs_of, runs_with, todo_of, views_of, views_with}
use Rattle.law_flow.proofs.Control.Goes.{view_after}
use Rattle.law_flow.proofs.Control.AtLevel.{AtLevel, MayTest, me_of, sight_after, with_event}
use Rattle.law_flow.proofs.Control.Events.{StillAt, ends_event, knows_event, leaf_event, loop_event}

-- ---- the running intervals, and the activations

-- the innermost one has one item more
abbrev pub add : Sign → List Run → List Run
add q [] = []
add q (r ∷ rs) = record r { sight = r.sight ++ q ∷ [] } ∷ rs

abbrev pub owned : Bool → ℕ → Event → List Run → List Run
owned true n e rs = add (Some (n, e)) rs
owned false n e rs = rs

abbrev pub ended : Option Mark → List Run → List Run
ended None rs = rs
ended (Some m) rs = drop 1 rs

abbrev pub items_in : List Run → ℕ
items_in [] = 0
items_in (r ∷ rs) = length r.sight

-- a new one, with this number
abbrev pub opens : ℕ → BlockKind → List Run → List Run
opens n kind rs = record { number = n; kind = kind; place = items_in rs; sight = [] } ∷ add None rs

abbrev pub begun : Plan → ℕ → Option Mark → List Run → List Run
begun plan n None rs = rs
begun plan n (Some m) rs = opens n (block_kind plan m.block) rs

-- the top activation with the test of an event
abbrev pub tested : Program → EventId → Event → List View → List View
tested program me e [] = []
tested program me e (v ∷ vs) = view_after program me e v ∷ vs

pub add_runs : (q : Sign) (sort : Sort) (r : Run) (rs : List Run)
    → add q (runs_with sort r rs) ≡ runs_with sort (record r { sight = r.sight ++ q ∷ [] }) rs
add_runs q process r rs = refl
add_runs q function r rs = refl
add_runs q leaf r rs = refl
add_runs q (loop l) r rs = refl

pub items_runs : (sort : Sort) (r : Run) (rs : List Run) → items_in (runs_with sort r rs) ≡ length r.sight
items_runs process r rs = refl
items_runs function r rs = refl
items_runs leaf r rs = refl
items_runs (loop l) r rs = refl

pub tested_views : (program : Program) (me : EventId) (e : Event) (sort : Sort) (v : View) (vs : List View)
    → tested program me e (views_with sort v vs) ≡ views_with sort (view_after program me e v) vs
tested_views program me e process v vs = refl
tested_views program me e function v vs = refl
tested_views program me e leaf v vs = refl
tested_views program me e (loop l) v vs = refl

module _ (program : Program) (policy : Policy) (p : ℕ) where
  pub record Moved (todo : List Todo) (now : List View) (runs : List Run) : Type 0 where
    pub levels : List Level
    pub hold : AllHold program policy p levels
    pub leaf : TopLeaf program policy p levels
    pub todo_is : todo ≡ todo_of levels
    pub now_is : now ≡ views_of levels
    pub runs_is : runs ≡ runs_of levels

  -- ---- where the statement of an event stands

  pub no_block : (t : ℕ) → is_while (kind_of program t) ≡ false
      → block_of (plan_of program policy) (block.Loop t) ≡ None
  no_block t isnt = by (block_of (plan_of program policy) (block.Loop t)) refl
    where
      by : (o : Option ℕ) → block_of (plan_of program policy) (block.Loop t) ≡ o → o ≡ None
      by None e = refl
      by (Some b) e = absurd (both_ways (is_while (kind_of program t)) isnt
          (block_loop_while program policy t (ap is_some e)))

  pub no_while : (t : ℕ) → is_choice (kind_of program t) ≡ false → is_while (kind_of program t) ≡ false
  no_while t isnt = elim (cases_Bool (is_while (kind_of program t))) [
    | inr w ↦ w
    | inl w ↦ absurd (both_ways (is_choice (kind_of program t)) isnt (while_choice (kind_of program t) w))
  ]

  pub may_test : (sort : Sort) (t : ℕ) → StandsAt program policy p sort t
      → block_of (plan_of program policy) (block.Loop t) ≡ None → MayTest program policy sort t
  may_test process t h none = calm_free program policy t h none
  may_test function t h none = calm_free program policy t h none
  may_test leaf t h none = calm_free program policy t h none
  may_test (loop l) t h none = h.0

  -- ---- an event after which the level is still the top one

  module _ (v : IsValid program) (x : Level) (xs : List Level) (h : Holds program policy p x xs)
      (hs : AllHold program policy p xs) (top : TopLeaf program policy p (x ∷ xs)) (t n : ℕ) (e : Event)
      (at : AtLevel program policy p x t n e) where
    over_event : (sort : Sort) (ys : List Level) (todo : List Todo) → MayTest program policy sort t
        → OverNext program policy p sort x ys
        → OverNext program policy p sort (with_event program policy p x n e todo) ys
    over_event process ys todo may o = o
    over_event function [] todo may o = o
    over_event function (y ∷ ys) todo may o = o
    over_event leaf [] todo may o = o
    over_event leaf (y ∷ ys) todo may o = leaf_event program policy p v x t n e at y o
    over_event (loop l) [] todo may o = o
    over_event (loop l) (y ∷ ys) todo may o = loop_event program policy p v x t n e at l y may o

    pub holds_event : (todo : List Todo) → StillAt program policy p v x t n e at x.sort x.todo todo
        → Facts program policy p x.sort x.body (sight_after program policy p x.run.sight n e)
        (view_after program (me_of program policy p n) e x.view) todo
        → Holds program policy p (with_event program policy p x n e todo) xs
    holds_event todo still facts = record {
      knows = knows_event program policy p v x t n e at x.sort at.stands todo still h.knows;
      facts = facts;
      ends = ends_event program policy p v x t n e at x.sort x.last h.ends;
      over = over_event x.sort xs todo at.stands h.over;
    }

    pub leaf_same : leaf_over program (plan_of program policy)
        (sight_after program policy p x.run.sight n e) ≡ leaf_over program (plan_of program policy) x.run.sight
    leaf_same = leaf_goes program (plan_of program policy) n e x.run.sight at.no_leaf
        (ap (λ i. returns (kind_of program i)) at.is ∙ at.stays)

    pub stays_top : (todo : List Todo) → StillAt program policy p v x t n e at x.sort x.todo todo
        → Facts program policy p x.sort x.body (sight_after program policy p x.run.sight n e)
        (view_after program (me_of program policy p n) e x.view) todo
        → Moved (todo ++ (x.last ++ todo_of xs)) (tested program (me_of program policy p n) e (views_of (x ∷ xs)))
        (add (Some (n, e)) (runs_of (x ∷ xs)))
    stays_top todo still facts = record {
      levels = with_event program policy p x n e todo ∷ xs;
      hold = (holds_event todo still facts, hs);
      leaf = λ f. leaf_same ∙ top f;
      todo_is = refl;
      now_is = tested_views program (me_of program policy p n) e x.sort x.view (views_of xs);
      runs_is = add_runs (Some (n, e)) x.sort x.run (runs_of xs);
    }

  -- ---- what is still to do of a loop's level

  module _ (v : IsValid program) (x : Level) (t n : ℕ) (e : Event) (at : AtLevel program policy p x t n e) (u : Todo)
      (us more : List Todo) (same : u.stmt ≡ t)
      (own : is_while (kind_of program t) ≡ true
      → passes (latest t (view_after program (me_of program policy p n) e x.view).1) ≡ true → Has t more)
      (others : (s : ℕ) → Has s us → Has s more) where
    pub still_after : (sort : Sort) → StillAt program policy p v x t n e at sort (u ∷ us) more
    still_after process = tt
    still_after function = tt
    still_after leaf = tt
    still_after (loop l) = record {
      own = λ w other pass. own w pass;
      others = λ s differs w has. elim has [
        | inl is ↦ absurd (differs (sym is ∙ same))
        | inr later ↦ others s later
      ];
    }
