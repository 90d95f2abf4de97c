-- What an event or a nested interval leaves of what is known of a level.
use Rattle.std.proofs.Common.{◌≡◌, ℕ, true, false, ◌&&◌, ◌⊎◌, List, [], ◌∷◌, ◌++◌, Some, None, refl, ap, sym, subst, ◌∙◌, length, inl, inr}
use Rattle.std.specs.Prelude.{⊤, nat_eq, slice_get}
use Rattle.std.proofs.lemmas.Bool.{and_from, cases_eq, eq-eqb, ne_eqb}
use Rattle.std.proofs.lemmas.Option.{none-some}
use Rattle.ppd_ast.specs.declared.plan.Policy.{Policy}
use Rattle.ppd_ast.specs.declared.program.Program.{Program}
use Rattle.ppd_ast.specs.Numbered.{is_while}
use Rattle.ppd_ast.specs.Lookups.{kind_of, body_of}
use Rattle.ppd_blocks.specs.Blocks.{plan_of}
use Rattle.ppd_sem.specs.declared.event.Event.{Event}
use Rattle.ppd_sem.specs.declared.proc.Todo.{Todo}
use Rattle.ppd_blocks.specs.Walk.{stands_in}
use Rattle.ppd_model.specs.declared.trace.EventId.{EventId}
use Rattle.ppd_model.specs.FullTrace.{is_passed, latest, tests_after}
use Rattle.ppd_model.specs.Parents.{is_choice}
use Rattle.ppd_model.proofs.TestSteps.{View, newest, older, test_by}
use Rattle.ppd_model.proofs.CountedOn.{kept_at, last_at}
use Rattle.law_flow.proofs.Control.KindDeeds.{while_choice}
use Rattle.law_flow.proofs.Control.Sights.{BeginsNone, Sign, tests_nested, tests_other, tests_over, tests_own}
use Rattle.law_flow.proofs.Control.Statics.{Free, IsBlockLoop}
use Rattle.law_flow.proofs.Control.Levels.{Agrees, Fact, Facts, IsUnfound, Looping, Met, Outer, OuterAt, Plain, Sort, frame_of, passes, Has}

-- ---- lists

-- the view after an event
abbrev pub view_after : Program → EventId → Event → View → View
view_after program me e v = (v.0, tests_after (kind_of program e.stmt) e.stmt me e.value v.1)

abbrev pub Every : ℕ → Type 0
Every s = ⊤

module _ (program : Program) (policy : Policy) (p : ℕ) where
  -- of the statements of which this holds, each was tested just now, or is known as before
  pub record Goes (frame : ℕ) (C : ℕ → Type 0) (xs : List Sign) (v : View) (ys : List Sign) (w : View) : Type 0 where
    pub each : (s : ℕ) → C s → is_choice (kind_of program s) ≡ true
        → Met program policy p frame ys w s
        ⊎ ((tests_over program (plan_of program policy) frame s ys ≡ tests_over program
        (plan_of program policy) frame s xs) × (latest s w.1 ≡ latest s v.1))
    pub longer : (j : ℕ) (q : Sign) → slice_get xs j ≡ Some q → slice_get ys j ≡ Some q

  module _ (frame : ℕ) (C : ℕ → Type 0) (xs : List Sign) (v : View) (ys : List Sign) (w : View)
      (g : Goes frame C xs v ys w) where
    kept_met : (s : ℕ) → (tests_over program (plan_of program policy) frame s ys ≡ tests_over program
        (plan_of program policy) frame s xs) → (latest s w.1 ≡ latest s v.1)
        → Met program policy p frame xs v s → Met program policy p frame ys w s
    kept_met s e f m = record {
      found = m.found;
      found_is = e ∙ m.found_is;
      test = m.test;
      test_is = f ∙ m.test_is;
      event = m.event;
      there = g.longer m.found.item (Some (m.test.event.number, m.event)) m.there;
      process_is = m.process_is;
      passed_is = m.passed_is;
    }

    pub met_on : (s : ℕ) → C s → is_choice (kind_of program s) ≡ true → Met program policy p frame xs v s
        → Met program policy p frame ys w s
    met_on s c is m = elim (g.each s c is) [ inl new ↦ new | inr old ↦ kept_met s old.0 old.1 m ]

    agrees_on : (s : ℕ) → C s → is_choice (kind_of program s) ≡ true → Agrees program policy p frame xs v s
        → Agrees program policy p frame ys w s
    agrees_on s c is a = elim (g.each s c is) [
      | inl new ↦ inr new
      | inr old ↦ elim a [
        | inl none ↦ inl (old.0 ∙ none.0, old.1 ∙ none.1)
        | inr m ↦ inr (kept_met s old.0 old.1 m)
      ]
    ]

    found_on : (s : ℕ) → C s → is_choice (kind_of program s) ≡ true → IsUnfound program policy p frame xs s
        ⊎ Met program policy p frame xs v s
        → IsUnfound program policy p frame ys s ⊎ Met program policy p frame ys w s
    found_on s c is a = elim (g.each s c is) [
      | inl new ↦ inr new
      | inr old ↦ elim a [
        | inl none ↦ inl (old.0 ∙ none)
        | inr m ↦ inr (kept_met s old.0 old.1 m)
      ]
    ]

    pub plain_on : (body : ℕ) → ((s : ℕ) → body_of program s ≡ body → Free program policy s → C s)
        → ((l : ℕ) → body_of program l ≡ body → IsBlockLoop program policy l
        → tests_over program (plan_of program policy) frame l ys ≡ tests_over program
        (plan_of program policy) frame l xs)
        → ((s l : ℕ) → is_while (kind_of program s) ≡ true → IsBlockLoop program policy l
        → stands_in program s l ≡ true → passes (latest s w.1) ≡ false)
        → Plain program policy p frame body xs v → Plain program policy p frame body ys w
    plain_on body all same quiet h = record {
      free = λ s home is free. agrees_on s (all s home free) is (h.free s home is free);
      unfound = λ l home is. same l home is ∙ h.unfound l home is;
      quiet = quiet;
    }

    outer_on : (sort : Sort) (body o : ℕ) → frame ≡ frame_of sort
        → (body_of program o ≡ body → OuterAt program policy p sort o → C o)
        → Outer program policy p sort body xs v o → Outer program policy p sort body ys w o
    outer_on sort body o is all h = record {
      home = h.home;
      choice = h.choice;
      stands = h.stands;
      met = subst (λ f. Met program policy p f ys w o) is
          (met_on o (all h.home h.stands) h.choice (subst (λ f. Met program policy p f xs v o) (sym is) h.met));
    }

    pub fact_on : (sort : Sort) (body s : ℕ) → frame ≡ frame_of sort
        → ((o : ℕ) → body_of program o ≡ body → OuterAt program policy p sort o → C o)
        → Fact program policy p sort body xs v s → Fact program policy p sort body ys w s
    fact_on sort body s is all h = record {
      home = h.home;
      stands = h.stands;
      outer = λ o e. outer_on sort body o is (all o) (h.outer o e);
    }

    pub facts_on : (sort : Sort) (body : ℕ) (todo : List Todo) → frame ≡ frame_of sort
        → ((o : ℕ) → body_of program o ≡ body → OuterAt program policy p sort o → C o)
        → Facts program policy p sort body xs v todo → Facts program policy p sort body ys w todo
    facts_on sort body [] is all h = tt
    facts_on sort body (t ∷ ts) is all h =
        ((fact_on sort body t.stmt is all h.0.0, h.0.1), facts_on sort body ts is all h.1)

  -- ---- the level of a loop

  pub looping_on : (C : ℕ → Type 0) (xs : List Sign) (v : View) (ys : List Sign) (w : View) → Goes 0 C xs v ys w
      → (l body : ℕ) (todo more : List Todo)
      → ((s : ℕ) → body_of program s ≡ body → C s)
      → ((s : ℕ) → is_while (kind_of program s) ≡ true → stands_in program s l ≡ true → (s ≡ l → ⊥)
      → passes (latest s w.1) ≡ true → Has s more)
      → Looping program policy p l body xs v todo → Looping program policy p l body ys w more
  looping_on C xs v ys w g l body todo more all runs h = record {
    met = λ s home is. found_on 0 C xs v ys w g s (all s home) is (h.met s home is);
    quiet = λ s home is inside none. elim (g.each s (all s home) (while_choice (kind_of program s) is)) [
      | inl new ↦ absurd (none-some new.found (sym none ∙ new.found_is))
      | inr old ↦ ap passes old.1 ∙ h.quiet s home is inside (sym old.0 ∙ none)
    ];
    runs = runs;
  }

  -- ---- an event

  pub event_met : (frame n : ℕ) (e : Event) (xs : List Sign) (v : View)
      → BeginsNone program (plan_of program policy) frame e → e.trap ≡ None → (s : ℕ) → e.stmt ≡ s
      → is_choice (kind_of program s) ≡ true
      → Met program policy p frame (xs ++ Some (n, e) ∷ [])
      (view_after program (record { process = p; number = n }) e v) s
  event_met frame n e xs v none fine s same is = record {
    found = record { item = length xs; passed = is_passed e.value };
    found_is = tests_own program (plan_of program policy) frame s n e xs none same fine;
    test = test_by s (record { process = p; number = n }) e.value;
    test_is = newest (kind_of program e.stmt) e.stmt s (record { process = p; number = n }) e.value v.1
        (and_from (nat_eq e.stmt s) (is_choice (kind_of program e.stmt)) (eq-eqb e.stmt s same)
        (ap (λ i. is_choice (kind_of program i)) same ∙ is));
    event = e;
    there = last_at xs (Some (n, e));
    process_is = refl;
    passed_is = refl;
  }

  pub event_goes : (frame n : ℕ) (e : Event) (xs : List Sign) (v : View)
      → BeginsNone program (plan_of program policy) frame e → e.trap ≡ None
      → Goes frame Every xs v (xs ++ Some (n, e) ∷ []) (view_after program (record { process = p; number = n }) e v)
  event_goes frame n e xs v none fine = record {
    each = λ s c is. elim (cases_eq e.stmt s) [
      | inl same ↦ inl (event_met frame n e xs v none fine s same is)
      | inr other ↦ inr (
        tests_other program (plan_of program policy) frame s n e xs none other,
        older (kind_of program e.stmt) e.stmt s (record { process = p; number = n }) e.value v.1
            (ap (λ b. b && is_choice (kind_of program e.stmt)) (ne_eqb e.stmt s other)),
      )
    ];
    longer = λ j q at. kept_at xs (Some (n, e) ∷ []) j q at;
  }

  -- ---- a nested interval

  pub nested_goes : (frame : ℕ) (xs : List Sign) (v : View) → Goes frame Every xs v (xs ++ None ∷ []) v
  nested_goes frame xs v = record {
    each = λ s c is. inr (tests_nested program (plan_of program policy) frame s xs, refl);
    longer = λ j q at. kept_at xs (None ∷ []) j q at;
  }
