-- An interval as the search sees it: its events with their numbers, and a place for each nested interval.
use Rattle.std.proofs.Common.{◌≡◌, ℕ, ◌+◌, true, false, ◌&&◌, List, [], ◌∷◌, ◌++◌, Option, Some, None, refl, ap, ◌∙◌, length, arith}
use Rattle.std.specs.Prelude.{fold, is_some, nat_eq, not}
use Rattle.std.proofs.lemmas.Bool.{and_from, cond-false, cond-true, eq-eqb, ne_eqb}
use Rattle.std.proofs.lemmas.List.Sums.{fold-append}
use Rattle.ppd_ast.specs.declared.plan.Plan.{Plan}
use Rattle.ppd_ast.specs.declared.program.Program.{Program}
use Rattle.ppd_ast.specs.Lookups.{kind_of}
use Rattle.ppd_sem.specs.declared.event.Event.{Event}
use Rattle.ppd_sem.specs.Runs.{returns}
use Rattle.ppd_model.specs.FullTrace.{is_passed}
use Rattle.ppd_graph.specs.declared.last_test.LastTest.{LastTest}
use Rattle.ppd_graph.specs.declared.leaf_call.LeafCall.{LeafCall}
use Rattle.ppd_graph.specs.Control.{Tests, begun_tests, test_event}
use Rattle.ppd_graph.specs.Locals.{begins_leaf, leaf_after}

-- an event with its number, or a nested interval
abbrev pub Sign : Type 0
Sign = Option (ℕ × Event)

module _ (program : Program) (plan : Plan) where
  -- ---- tests

  abbrev pub test_sign : ℕ → ℕ → Tests → Sign → Tests
  test_sign frame s t None = record t { next = t.next + 1 }
  test_sign frame s t (Some q) = record { next = t.next + 1; found = test_event program plan frame s q.1 t }

  abbrev pub tests_from : ℕ → ℕ → Tests → List Sign → Tests
  tests_from frame s t signs = fold (test_sign frame s) t signs

  abbrev pub tests_over : ℕ → ℕ → List Sign → Option LastTest
  tests_over frame s signs = (tests_from frame s begun_tests signs).found

  next_from : (frame s : ℕ) (t : Tests) (signs : List Sign) → (tests_from frame s t signs).next ≡ t.next + length signs
  next_from frame s t [] = omega arith
  next_from frame s t (None ∷ xs) = next_from frame s (record t { next = t.next + 1 }) xs ∙ omega arith
  next_from frame s t (Some q ∷ xs) =
      next_from frame s (record { next = t.next + 1; found = test_event program plan frame s q.1 t }) xs ∙ omega arith

  -- a nested interval tests nothing
  pub tests_nested : (frame s : ℕ) (signs : List Sign)
      → tests_over frame s (signs ++ None ∷ []) ≡ tests_over frame s signs
  tests_nested frame s signs = ap (λ (t : Tests). t.found)
      (fold-append (test_sign frame s) begun_tests signs (None ∷ []))

  tests_event : (frame s n : ℕ) (e : Event) (signs : List Sign)
      → tests_over frame s (signs ++ Some (n, e) ∷ []) ≡ test_event program plan frame s e
      (tests_from frame s begun_tests signs)
  tests_event frame s n e signs = ap (λ (t : Tests). t.found)
      (fold-append (test_sign frame s) begun_tests signs (Some (n, e) ∷ []))

  -- a call begins an activation, in which nothing is tested yet
  pub tests_call : (s n : ℕ) (e : Event) (signs : List Sign) → begins_leaf program plan e ≡ true
      → tests_over 1 s (signs ++ Some (n, e) ∷ []) ≡ None
  tests_call s n e signs is = tests_event 1 s n e signs
      ∙ cond-true (begins_leaf program plan e && true) None _ (and_from (begins_leaf program plan e) true is refl)

  -- an event that begins no activation of this frame
  abbrev pub BeginsNone : ℕ → Event → Type 0
  BeginsNone frame e = (begins_leaf program plan e && nat_eq frame 1) ≡ false

  -- is a test of its own statement
  pub tests_own : (frame s n : ℕ) (e : Event) (signs : List Sign) → BeginsNone frame e → e.stmt ≡ s → e.trap ≡ None
      → tests_over frame s (signs ++ Some (n, e) ∷ []) ≡ Some
      (record { item = length signs; passed = is_passed e.value })
  tests_own frame s n e signs none is fine =
      let t : Tests = tests_from frame s begun_tests signs in
      let whole : (nat_eq e.stmt s && not (is_some e.trap)) ≡ true =
      and_from (nat_eq e.stmt s) (not (is_some e.trap)) (eq-eqb e.stmt s is) (ap (λ o. not (is_some o)) fine) in
      let place : t.next ≡ length signs = next_from frame s begun_tests signs ∙ omega arith in
      tests_event frame s n e signs
      ∙ cond-false (begins_leaf program plan e && nat_eq frame 1) None _ none
      ∙ cond-true (nat_eq e.stmt s && not (is_some e.trap))
      (Some (record { item = t.next; passed = is_passed e.value })) t.found whole
      ∙ ap (λ i. Some (record { item = i; passed = is_passed e.value })) place

  -- and of no other
  pub tests_other : (frame s n : ℕ) (e : Event) (signs : List Sign) → BeginsNone frame e → (e.stmt ≡ s → ⊥)
      → tests_over frame s (signs ++ Some (n, e) ∷ []) ≡ tests_over frame s signs
  tests_other frame s n e signs none isnt =
      let t : Tests = tests_from frame s begun_tests signs in
      tests_event frame s n e signs
      ∙ cond-false (begins_leaf program plan e && nat_eq frame 1) None _ none
      ∙ cond-false (nat_eq e.stmt s && not (is_some e.trap))
      (Some (record { item = t.next; passed = is_passed e.value })) t.found
      (ap (λ b. b && not (is_some e.trap)) (ne_eqb e.stmt s isnt))

  -- ---- calls without an interval

  -- the number of the next item, and the call that goes on
  abbrev pub leaf_sign : ℕ × Option LeafCall → Sign → ℕ × Option LeafCall
  leaf_sign t None = (t.0 + 1, t.1)
  leaf_sign t (Some q) = (t.0 + 1, leaf_after program plan t.0 q.1 t.1)

  abbrev pub leaf_from : ℕ × Option LeafCall → List Sign → ℕ × Option LeafCall
  leaf_from t signs = fold leaf_sign t signs

  abbrev pub leaf_over : List Sign → Option LeafCall
  leaf_over signs = (leaf_from (0, None) signs).1

  place_from : (t : ℕ × Option LeafCall) (signs : List Sign) → (leaf_from t signs).0 ≡ t.0 + length signs
  place_from t [] = omega arith
  place_from t (None ∷ xs) = place_from (t.0 + 1, t.1) xs ∙ omega arith
  place_from t (Some q ∷ xs) = place_from (t.0 + 1, leaf_after program plan t.0 q.1 t.1) xs ∙ omega arith

  pub leaf_nested : (signs : List Sign) → leaf_over (signs ++ None ∷ []) ≡ leaf_over signs
  leaf_nested signs = ap (λ (t : ℕ × Option LeafCall). t.1) (fold-append leaf_sign (0, None) signs (None ∷ []))

  leaf_event : (n : ℕ) (e : Event) (signs : List Sign)
      → leaf_over (signs ++ Some (n, e) ∷ []) ≡ leaf_after program plan (length signs) e (leaf_over signs)
  leaf_event n e signs =
      let place : (leaf_from (0, None) signs).0 ≡ length signs = place_from (0, None) signs ∙ omega arith in
      ap (λ (t : ℕ × Option LeafCall). t.1) (fold-append leaf_sign (0, None) signs (Some (n, e) ∷ []))
      ∙ ap (λ i. leaf_after program plan i e (leaf_over signs)) place

  pub leaf_begins : (n : ℕ) (e : Event) (signs : List Sign) → begins_leaf program plan e ≡ true
      → leaf_over (signs ++ Some (n, e) ∷ []) ≡ Some (record { item = length signs; stmt = e.stmt })
  leaf_begins n e signs is = leaf_event n e signs
      ∙ cond-true (begins_leaf program plan e) (Some (record { item = length signs; stmt = e.stmt })) _ is

  pub leaf_ends : (n : ℕ) (e : Event) (signs : List Sign) → begins_leaf program plan e ≡ false
      → returns (kind_of program e.stmt) ≡ true
      → leaf_over (signs ++ Some (n, e) ∷ []) ≡ None
  leaf_ends n e signs isnt is =
      leaf_event n e signs ∙ cond-false (begins_leaf program plan e)
      (Some (record { item = length signs; stmt = e.stmt })) _ isnt
      ∙ cond-true (returns (kind_of program e.stmt)) None (leaf_over signs) is

  pub leaf_goes : (n : ℕ) (e : Event) (signs : List Sign) → begins_leaf program plan e ≡ false
      → returns (kind_of program e.stmt) ≡ false
      → leaf_over (signs ++ Some (n, e) ∷ []) ≡ leaf_over signs
  leaf_goes n e signs isnt is =
      leaf_event n e signs ∙ cond-false (begins_leaf program plan e)
      (Some (record { item = length signs; stmt = e.stmt })) _ isnt
      ∙ cond-false (returns (kind_of program e.stmt)) None (leaf_over signs) is
