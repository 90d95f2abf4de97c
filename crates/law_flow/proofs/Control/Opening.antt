-- A level to which a nested interval or a new activation is added, and the statements of a function.
use Rattle.std.proofs.Common.{◌≡◌, ℕ, ◌<◌, Bool, true, false, List, [], ◌∷◌, ◌++◌, Some, None, refl, ap, sym, subst, ◌∙◌, inl, inr, true≢false}
use Rattle.std.specs.Prelude.{⊤, is_some, slice_get, option_and_then}
use Rattle.std.proofs.lemmas.Bool.{both_ways}
use Rattle.std.proofs.lemmas.Option.{none-some}
use Rattle.ppd_ast.specs.Numbered.{is_while}
use Rattle.ppd_ast.specs.Valid.{IsValid}
use Rattle.ppd_ast.specs.declared.plan.BlockKind.TheVariants as block
use Rattle.ppd_ast.specs.declared.plan.Policy.{Policy}
use Rattle.ppd_ast.specs.declared.program.Program.{Program}
use Rattle.ppd_ast.specs.Lookups.{kind_of, body_of}
use Rattle.law_steps.specs.Beside.Relation.{IsCallOf}
use Rattle.ppd_blocks.specs.Blocks.{plan_of}
use Rattle.law_steps.proofs.Facts.Counted.{calling_block}
use Rattle.law_steps.proofs.OpenBlocks.Framed.{body_is}
use Rattle.ppd_sem.specs.declared.proc.Todo.{Todo}
use Rattle.ppd_sem.specs.Process.{todos}
use Rattle.ppd_sem.specs.Runs.{returns}
use Rattle.ppd_sem.specs.Tables.{block_of}
use Rattle.ppd_model.proofs.Homes.{AreTop as AreTopOf}
use Rattle.ppd_model.proofs.Moves.{AreTop}
use Rattle.ppd_model.proofs.TestSteps.{View}
use Rattle.ppd_model.proofs.CountedOn.{kept_at}
use Rattle.law_flow.proofs.Control.Sights.{Sign, leaf_nested, tests_nested}
use Rattle.law_flow.proofs.Control.Statics.{Calm, IsBlockLoop, loops_apart, top_calm}
use Rattle.law_flow.proofs.Control.Levels.{EndsWith, Fact, Facts, Holds, Knows, Level, OfLeaf, OverNext, Plain, Sort, StandsAt, frame_of, function, leaf, loop, process}
use Rattle.law_flow.proofs.Control.Goes.{Every, Goes, fact_on, facts_on, looping_on, nested_goes, plain_on}

module _ (program : Program) (policy : Policy) (p : ℕ) where
  -- ---- a nested interval more

  abbrev pub with_nested : Level → Level
  with_nested x = record x { run = record x.run { sight = x.run.sight ++ None ∷ [] } }

  module _ (x : Level) where
    goes : (frame : ℕ) → Goes program policy p frame Every x.run.sight x.view (x.run.sight ++ None ∷ []) x.view
    goes frame = nested_goes program policy p frame x.run.sight x.view

    plain_nested : (frame : ℕ) → Plain program policy p frame x.body x.run.sight x.view
        → Plain program policy p frame x.body (x.run.sight ++ None ∷ []) x.view
    plain_nested frame h =
        plain_on program policy p frame Every x.run.sight x.view (x.run.sight ++ None ∷ []) x.view (goes frame) x.body
        (λ s home f. tt)
        (λ l home is. tests_nested program (plan_of program policy) frame l x.run.sight) h.quiet h

    knows_nested : (sort : Sort) → Knows program policy p sort x.body x.run.sight x.view x.todo
        → Knows program policy p sort x.body (x.run.sight ++ None ∷ []) x.view x.todo
    knows_nested process h = plain_nested 0 h
    knows_nested function h = plain_nested 0 h
    knows_nested leaf h = plain_nested 1 h
    knows_nested (loop l) h =
        looping_on program policy p Every x.run.sight x.view (x.run.sight ++ None ∷ []) x.view
        (goes 0) l x.body x.todo x.todo (λ s home. tt) h.runs h

    pub fact_nested : (sort : Sort) (s : ℕ) → Fact program policy p sort x.body x.run.sight x.view s
        → Fact program policy p sort x.body (x.run.sight ++ None ∷ []) x.view s
    fact_nested sort s h = fact_on program policy p (frame_of sort) Every x.run.sight x.view
        (x.run.sight ++ None ∷ []) x.view (goes (frame_of sort)) sort x.body s refl (λ o home stands. tt) h

    ends_nested : (sort : Sort) (last : List Todo) → EndsWith program policy p sort x.body x.run.sight x.view last
        → EndsWith program policy p sort x.body (x.run.sight ++ None ∷ []) x.view last
    ends_nested process last h = h
    ends_nested function last h = (h.0, h.1, h.2, h.3, fact_nested function h.0.stmt h.4)
    ends_nested leaf last h = (h.0, h.1, h.2, h.3, fact_nested leaf h.0.stmt h.4)
    ends_nested (loop l) last h = h

    leaf_of_nested : (y : Level) → OfLeaf program policy p x.body x.run x.view.0 y
        → OfLeaf program policy p x.body (record x.run { sight = x.run.sight ++ None ∷ [] }) x.view.0 y
    leaf_of_nested y h = record {
      call = h.call;
      leaf_is = leaf_nested program (plan_of program policy) x.run.sight ∙ h.leaf_is;
      number = h.number;
      event = h.event;
      there = kept_at x.run.sight (None ∷ []) h.call.item (Some (h.number, h.event)) h.there;
      called = h.called;
      frame_is = h.frame_is;
      number_is = h.number_is;
      kind_is = h.kind_is;
      place_is = h.place_is;
      longer = λ j q there. kept_at x.run.sight (None ∷ []) j q (h.longer j q there);
      same = λ s home choice. tests_nested program (plan_of program policy) 0 s x.run.sight ∙ h.same s home choice;
      other = h.other;
      no_block = h.no_block;
      low = h.low;
    }

    over_nested : (sort : Sort) (ys : List Level) → OverNext program policy p sort x ys
        → OverNext program policy p sort (with_nested x) ys
    over_nested process ys o = o
    over_nested function [] o = o
    over_nested function (y ∷ ys) o = o
    over_nested leaf [] o = o
    over_nested leaf (y ∷ ys) o = leaf_of_nested y o
    over_nested (loop l) [] o = o
    over_nested (loop l) (y ∷ ys) o = o

    pub holds_nested : (ys : List Level) → Holds program policy p x ys → Holds program policy p (with_nested x) ys
    holds_nested ys h = record {
      knows = knows_nested x.sort h.knows;
      facts = facts_on program policy p (frame_of x.sort) Every x.run.sight x.view (x.run.sight ++ None ∷ []) x.view
          (goes (frame_of x.sort)) x.sort x.body x.todo refl (λ o home stands. tt) h.facts;
      ends = ends_nested x.sort x.last h.ends;
      over = over_nested x.sort ys h.over;
    }

  -- ---- the head is done, before its event

  over_todo : (x : Level) (todo more : List Todo) (sort : Sort) (ys : List Level)
      → OverNext program policy p sort (record x { todo = todo }) ys
      → OverNext program policy p sort (record x { todo = more }) ys
  over_todo x todo more process ys o = o
  over_todo x todo more function [] o = o
  over_todo x todo more function (y ∷ ys) o = o
  over_todo x todo more leaf [] o = o
  over_todo x todo more leaf (y ∷ ys) o = o
  over_todo x todo more (loop l) [] o = o
  over_todo x todo more (loop l) (y ∷ ys) o = o

  -- a loop's level does not need it
  abbrev pub CanGo : Sort → ℕ → Type 0
  CanGo (loop l) t = is_while (kind_of program t) ≡ false
  CanGo s t = ⊤

  knows_done : (x : Level) (t : Todo) (ts : List Todo) (sort : Sort) → CanGo sort t.stmt
      → Knows program policy p sort x.body x.run.sight x.view (t ∷ ts)
      → Knows program policy p sort x.body x.run.sight x.view ts
  knows_done x t ts process can h = h
  knows_done x t ts function can h = h
  knows_done x t ts leaf can h = h
  knows_done x t ts (loop l) can h = record {
    met = h.met;
    quiet = h.quiet;
    runs = λ s is inside other pass. elim (h.runs s is inside other pass) [
      | inl same ↦ absurd (both_ways (is_while (kind_of program t.stmt)) can
          (subst (λ i. is_while (kind_of program i) ≡ true) (sym same) is))
      | inr later ↦ later
    ];
  }

  pub holds_done : (x : Level) (t : Todo) (ts : List Todo) (ys : List Level) → CanGo x.sort t.stmt
      → Holds program policy p (record x { todo = t ∷ ts }) ys → Holds program policy p (record x { todo = ts }) ys
  holds_done x t ts ys can h = record {
    knows = knows_done x t ts x.sort can h.knows;
    facts = h.facts.1;
    ends = h.ends;
    over = over_todo x (t ∷ ts) ts x.sort ys h.over;
  }

  pub can_simply : (sort : Sort) (t : ℕ) → is_while (kind_of program t) ≡ false → CanGo sort t
  can_simply process t h = tt
  can_simply function t h = tt
  can_simply leaf t h = tt
  can_simply (loop l) t h = h

  -- ---- a call is not from an activation without an interval

  pub calling_is_block : (t f body : ℕ) → IsValid program → IsCallOf (kind_of program t) f → body_of program t ≡ body
      → body < program.functions
      → is_some (block_of (plan_of program policy) (block.Function body)) ≡ true
  calling_is_block t f body v calls home low =
      let same = sym (body_is program t) ∙ home in
      subst (λ b. is_some (block_of (plan_of program policy) (block.Function b)) ≡ true) same
      (calling_block program policy t f v calls (subst (λ b. b < program.functions) (sym same) low))

  pub called_from : (x : Level) (t f : ℕ) → IsValid program → IsCallOf (kind_of program t) f
      → body_of program t ≡ x.body → (sort : Sort) (ys : List Level) → OverNext program policy p sort x ys
      → frame_of sort ≡ 0
  called_from x t f v calls home process ys o = refl
  called_from x t f v calls home function ys o = refl
  called_from x t f v calls home (loop l) ys o = refl
  called_from x t f v calls home leaf [] o = absurd o
  called_from x t f v calls home leaf (y ∷ ys) o =
      absurd (true≢false (sym (calling_is_block t f x.body v calls home o.low) ∙ ap is_some o.no_block))

  -- ---- the statements of a function

  -- the last one returns
  pub record TopSplit (sort : Sort) (f : ℕ) (sight : List Sign) (v : View) (stmts : List ℕ) : Type 0 where
    pub first : List Todo
    pub last : Todo
    pub todos_are : todos stmts ≡ first ++ last ∷ []
    pub facts : Facts program policy p sort f sight v first
    pub returning : returns (kind_of program last.stmt) ≡ true
    pub unmarked : last.entered ≡ false
    pub fact : Fact program policy p sort f sight v last.stmt

  top_fact : (sort : Sort) (f : ℕ) (sight : List Sign) (v : View) (i : ℕ)
      → ((j : ℕ) → Calm program policy j → StandsAt program policy p sort j)
      → body_of program i ≡ f → option_and_then (λ x. x.parent) (slice_get program.stmts i) ≡ None → Fact program policy p sort f sight v i
  top_fact sort f sight v i calm home none = record {
    home = home;
    stands = calm i (top_calm program policy i none);
    outer = λ o e. absurd (none-some o (sym none ∙ e));
  }

  pub top_split : (sort : Sort) (f : ℕ) (sight : List Sign) (v : View) (stmts : List ℕ)
      → ((j : ℕ) → Calm program policy j → StandsAt program policy p sort j)
      → AreTop program stmts → AreTopOf program f stmts → TopSplit sort f sight v stmts
  top_split sort f sight v [] calm top home = absurd top
  top_split sort f sight v (i ∷ []) calm top home = record {
    first = [];
    last = record { stmt = i; entered = false; offered = false };
    todos_are = refl;
    facts = tt;
    returning = top.1;
    unmarked = refl;
    fact = top_fact sort f sight v i calm home.0 top.0;
  }
  top_split sort f sight v (i ∷ j ∷ is) calm top home =
      let rest : TopSplit sort f sight v (j ∷ is) = top_split sort f sight v (j ∷ is) calm top.1 home.1 in
      record {
        first = record { stmt = i; entered = false; offered = false } ∷ rest.first;
        last = rest.last;
        todos_are = ap (λ ts. record { stmt = i; entered = false; offered = false } ∷ ts) rest.todos_are;
        facts = ((top_fact sort f sight v i calm home.0.of_body top.0.0, (top.0.1, refl)), rest.facts);
        returning = rest.returning;
        unmarked = rest.unmarked;
        fact = rest.fact;
      }

  -- ---- the level in which a block loop is entered is no loop's

  abbrev loop_if : Sort → Bool
  loop_if (loop l) = true
  loop_if s = false

  pub entered_from : (x : Level) (t : ℕ) → IsBlockLoop program policy t → (sort : Sort) (ys : List Level)
      → StandsAt program policy p sort t → OverNext program policy p sort x ys
      → ((m : ℕ) → sort ≡ loop m → ⊥)
      × (Knows program policy p sort x.body x.run.sight x.view x.todo
      → Plain program policy p (frame_of sort) x.body x.run.sight x.view)
  entered_from x t is process ys stands o = (λ m e. true≢false (sym (ap loop_if e)), λ h. h)
  entered_from x t is function ys stands o = (λ m e. true≢false (sym (ap loop_if e)), λ h. h)
  entered_from x t is leaf ys stands o = (λ m e. true≢false (sym (ap loop_if e)), λ h. h)
  entered_from x t is (loop l) [] stands o = absurd o
  entered_from x t is (loop l) (y ∷ ys) stands o = absurd
      (stands.1 (loops_apart program policy t l is o.is_loop stands.0))
