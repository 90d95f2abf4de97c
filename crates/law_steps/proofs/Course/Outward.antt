-- In a valid program what follows a statement does not stand in it.
use Rattle.law_steps.proofs.Course.Rising.{child_stands, inner_kind, parent_below, parent_same, top_stands}
use Rattle.law_steps.proofs.Course.Standing.{as_parent}
use Rattle.ppd_ast.proofs.Members.{has_first, has_later, has_left, has_right}
use Rattle.ppd_ast.specs.Lookups.{body_numbered, kind_of, no_body}
use Rattle.ppd_ast.specs.Members.{has}
use Rattle.ppd_ast.specs.Order.{inner}
use Rattle.ppd_ast.specs.Valid.{IsValid}
use Rattle.ppd_ast.specs.declared.limits.TheConstants.{MOST_NESTING}
use Rattle.ppd_ast.specs.declared.program.Body.{Body}
use Rattle.ppd_ast.specs.declared.program.Kind.{Kind}
use Rattle.ppd_ast.specs.declared.program.Kind.TheVariants as K
use Rattle.ppd_ast.specs.declared.program.Program.{Program}
use Rattle.ppd_ast.specs.declared.program.Stmt.{Stmt}
use Rattle.ppd_blocks.specs.Walk.{stands_in}
use Rattle.ppd_sets.proofs.Depths.{follow_none}
use Rattle.ppd_sets.proofs.Following.{follows_its_list}
use Rattle.ppd_sets.specs.Flow.{follow, follow_under, follow_within, next_in}
use Rattle.ppd_model.proofs.Changes.{some}
use Rattle.ppd_model.proofs.Parents.{none_some}
use Rattle.std.proofs.Common.{Bool, List, None, Option, Some, [], ap, arith, false, inl, inr, refl, subst, suc, sym, true, true≢false, zero, ℕ, ◌++◌, ◌<◌, ◌∙◌, ◌∷◌, ◌≡◌, ◌⊎◌}
use Rattle.std.proofs.lemmas.Bool.{cases_Bool, cond-false, cond-true}
use Rattle.std.specs.Option.{option_or}
use Rattle.std.specs.Prelude.{IsTrue, if◌then◌else◌, nat_eq, slice_get, unwrap_or}

-- the next one is of the list, or what follows it
first_cases : (xs : List ℕ) (after : Option ℕ) (u : ℕ) → option_or (slice_get xs 0) after ≡ Some u → IsTrue (has xs u) ⊎ (after ≡ Some u)
first_cases [] after u h = inr h
first_cases (x ∷ xs) after u h = inl (subst (λ y. IsTrue (has (x ∷ xs) y)) (some h) (has_first x xs))

next_cases : (xs : List ℕ) (s : ℕ) (after : Option ℕ) (u : ℕ) → next_in xs s after ≡ Some u → IsTrue (has xs u) ⊎ (after ≡ Some u)
next_cases [] s after u h = absurd (none_some h)
next_cases (x ∷ xs) s after u h =
    elim (cases_Bool (nat_eq x s)) [
      | inl is ↦ later (first_cases xs after u (sym (cond-true (nat_eq x s) (option_or (slice_get xs 0) after) (next_in xs s after) is) ∙ h))
      | inr isnt ↦ later (next_cases xs s after u (sym (cond-false (nat_eq x s) (option_or (slice_get xs 0) after) (next_in xs s after) isnt) ∙ h))
    ]
  where
    later : IsTrue (has xs u) ⊎ (after ≡ Some u) → IsTrue (has (x ∷ xs) u) ⊎ (after ≡ Some u)
    later c = elim c [ inl i ↦ inl (has_later x u xs i) | inr o ↦ inr o ]

in_choice : (b : Bool) (first second : List ℕ) (u : ℕ) → IsTrue (has (if b then first else second) u) → IsTrue (has (first ++ second) u)
in_choice true first second u h = has_left first second u h
in_choice false first second u h = has_right first second u h

top_orphan : (p : Program) (j u r : ℕ) (y : Stmt) → IsValid p → IsTrue (has (body_numbered p j).top u) → slice_get p.stmts u ≡ Some y → y.parent ≡ Some r → ⊥
top_orphan p j u r y v h at is = by (slice_get p.bodies j) refl h
  where
    by : (o : Option Body) → slice_get p.bodies j ≡ o → IsTrue (has (unwrap_or o no_body).top u) → ⊥
    by None e i = absurd (true≢false (sym i))
    by (Some b) e i =
        let z = top_stands p j u b v e i in
        let same : z.0 ≡ y = some (sym z.1 ∙ at) in
        none_some (sym z.2 ∙ ap (λ (x : Stmt). x.parent) same ∙ is)

module _ (p : Program) (v : IsValid p) (u r : ℕ) (y : Stmt) (at : slice_get p.stmts u ≡ Some y) (is : y.parent ≡ Some r) where
  -- what stands in statement q has it as its parent
  of_parent : (q : ℕ) (k : Kind) → kind_of p q ≡ k → IsTrue (has (inner k) u) → r ≡ q
  of_parent q k e h =
      let z = child_stands p q u v (subst (λ xs. IsTrue (has xs u)) (sym (inner_kind p q ∙ ap inner e)) h) in
      parent_same p u r q y z.0 at is z.1 z.2

  -- of statement q, in which statement t stands: `further` says the same of what follows q
  within : (q t : ℕ) (kind : Kind) → kind_of p q ≡ kind → q < t → (follow p q ≡ Some u → r < q) → follow_within q kind t (follow p q) ≡ Some u → r < t
  within q t (K.If e first second) is_k less further g =
      elim (next_cases (if has first t then first else second) t (follow p q) u g) [
        | inl i ↦ let same : r ≡ q = of_parent q (K.If e first second) is_k (in_choice (has first t) first second u i) in omega arith
        | inr o ↦ let out : r < q = further o in omega arith
      ]
  within q t (K.While e body) is_k less further g =
      elim (next_cases body t (Some q) u g) [
        | inl i ↦ let same : r ≡ q = of_parent q (K.While e body) is_k i in omega arith
        | inr o ↦
            let loop : q ≡ u = some o in
            let out : r < u = parent_below p u r y v at is in
            omega arith
      ]
  within q t kind is_k less further g = absurd (none_some g)

  under : (t : ℕ) (x : Stmt) (o : Option ℕ) → slice_get p.stmts t ≡ Some x → x.parent ≡ o → ((q : ℕ) → q < t → follow p q ≡ Some u → r < q) → follow p t ≡ Some u → r < t
  under t x None e none further f =
      let g : next_in (body_numbered p x.body).top t None ≡ Some u = sym (follows_its_list p t x v e ∙ ap (follow_under p (follow p) x.body t) none) ∙ f in
      elim (next_cases (body_numbered p x.body).top t None u g) [ inl i ↦ absurd (top_orphan p x.body u r y v i at is) | inr o ↦ absurd (none_some o) ]
  under t x (Some q) e some further f =
      let less : q < t = parent_below p t q x v e some in
      within q t (kind_of p q) refl less (further q less) (sym (follows_its_list p t x v e ∙ ap (follow_under p (follow p) x.body t) some) ∙ f)

  here : (t : ℕ) (o : Option Stmt) → slice_get p.stmts t ≡ o → ((q : ℕ) → q < t → follow p q ≡ Some u → r < q) → follow p t ≡ Some u → r < t
  here t None e further f = absurd (none_some (sym (follow_none MOST_NESTING p t (λ z. cc) e) ∙ f))
  here t (Some x) e further f = under t x x.parent e refl further f

  -- what follows a statement stands in none but those round the statement
  pub outward : (n t : ℕ) → t < n → follow p t ≡ Some u → r < t
  outward zero t lt f = absurd (omega arith)
  outward (suc n) t lt f = here t (slice_get p.stmts t) refl (λ q less g. outward n q (omega arith) g) f

-- a statement stands in what follows its parent just where the parent does
pub as_parent_behind : (p : Program) (x t u : ℕ) (y : Stmt) → IsValid p → slice_get p.stmts x ≡ Some y → y.parent ≡ Some t → follow p t ≡ Some u → stands_in p x u ≡ stands_in p t u
as_parent_behind p x t u y v at is f =
    as_parent p x t u y v at is (λ same. absurd (self (outward p v u t y (subst (λ i. slice_get p.stmts i ≡ Some y) same at) is (suc t) t (omega arith) f)))
  where
    self : t < t → ⊥
    self l = omega arith
