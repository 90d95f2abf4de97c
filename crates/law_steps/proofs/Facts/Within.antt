-- In a valid program: the statements inside a loop by the parents, and by the order of the loop's statements.
use Rattle.law_steps.proofs.Course.Rising.{child_stands, stands_in_parent}
use Rattle.law_steps.proofs.Course.Standing.{as_parent, in_itself, in_parent, none_outer, outwards}
use Rattle.ppd_ast.proofs.Members.{flat_from, flat_gives, has_cons, has_first, has_later}
use Rattle.ppd_ast.proofs.Vocabulary.{inner_at}
use Rattle.ppd_ast.specs.Members.{has}
use Rattle.ppd_ast.specs.Order.{preorder}
use Rattle.ppd_ast.specs.Valid.{IsValid}
use Rattle.ppd_ast.specs.declared.limits.TheConstants.{MOST_NESTING}
use Rattle.ppd_ast.specs.declared.program.Program.{Program}
use Rattle.ppd_ast.specs.declared.program.Stmt.{Stmt}
use Rattle.ppd_blocks.specs.Walk.{stands_at, stands_in}
use Rattle.std.proofs.Common.{None, Option, Some, false, inl, inr, refl, subst, suc, sym, true, true≢false, zero, ℕ, ◌-◌, ◌∙◌, ◌≡◌, ◌⊎◌}
use Rattle.std.proofs.lemmas.Bool.{cases_eq, eqb-true, or_cases}
use Rattle.std.specs.List.{flat_map}
use Rattle.std.specs.Prelude.{IsTrue, nat_eq, option_and_then, slice_get}

-- what stands in a statement of q stands in q
pub child_within : (p : Program) (q t x : ℕ) (y : Stmt) → IsValid p → slice_get p.stmts x ≡ Some y
    → y.parent ≡ Some t → stands_in p t q ≡ true → stands_in p x q ≡ true
child_within p q t x y v at is h = elim (cases_eq x q) [
  | inl e ↦ subst (λ z. stands_in p x z ≡ true) e (in_itself p x)
  | inr e ↦ as_parent p x t q y v at is e ∙ h
]

no_steps : (p : Program) (s x : ℕ) → stands_at 0 p.stmts s (Some x) ≡ false
unfolding stands_at
no_steps p s x = refl

-- so many steps outwards: q itself, or its parent
pub record IsOut (p : Program) (d q x : ℕ) : Type 0 where
  pub stmt : Stmt
  pub there : slice_get p.stmts x ≡ Some stmt
  pub outer : ℕ
  pub parent : stmt.parent ≡ Some outer
  pub on : stands_at d p.stmts q (Some outer) ≡ true

out_of : (p : Program) (d q x : ℕ) → stands_at d p.stmts q (option_and_then (λ x. x.parent) (slice_get p.stmts x)) ≡ true → IsOut p d q x
out_of p d q x h = by (slice_get p.stmts x) refl h
  where
    parents : (y : Stmt) (o : Option ℕ) → slice_get p.stmts x ≡ Some y → y.parent ≡ o
        → stands_at d p.stmts q o ≡ true → IsOut p d q x
    parents y None at e g = absurd (true≢false (sym g ∙ none_outer d p q))
    parents y (Some t) at e g = record { stmt = y; there = at; outer = t; parent = e; on = g }

    by : (o : Option Stmt) → slice_get p.stmts x ≡ o → stands_at d p.stmts q (option_and_then (λ (x : Stmt). x.parent) o) ≡ true → IsOut p d q x
    by None at g = absurd (true≢false (sym g ∙ none_outer d p q))
    by (Some y) at g = parents y y.parent at refl g

pub within_cases : (p : Program) (q x : ℕ) → stands_in p x q ≡ true → (x ≡ q) ⊎ IsOut p (MOST_NESTING - 1) q x
within_cases p q x h = elim (or_cases (nat_eq x q) (stands_at (MOST_NESTING - 1) p.stmts q (option_and_then (λ x. x.parent) (slice_get p.stmts x)))
    (sym (outwards (MOST_NESTING - 1) p q x) ∙ h)) [
      | inl e ↦ inl (eqb-true x q e)
      | inr e ↦ inr (out_of p (MOST_NESTING - 1) q x e)
    ]

-- to stand in goes on
stands_on : (d : ℕ) (p : Program) (q s x : ℕ) → IsValid p → stands_at d p.stmts s (Some x) ≡ true
    → stands_in p s q ≡ true → stands_in p x q ≡ true
stands_on zero p q s x v h g = absurd (true≢false (sym h ∙ no_steps p s x))
stands_on (suc d) p q s x v h g =
    elim (or_cases (nat_eq x s) (stands_at d p.stmts s (option_and_then (λ x. x.parent) (slice_get p.stmts x)))
    (sym (outwards d p s x) ∙ h)) [
      | inl e ↦ subst (λ z. stands_in p z q ≡ true) (sym (eqb-true x s e)) g
      | inr e ↦ (let o : IsOut p d s x = out_of p d s x e in child_within p q o.outer x o.stmt v o.there o.parent
          (stands_on d p q s o.outer v o.on g))
    ]

pub stands_through : (p : Program) (q s x : ℕ) → IsValid p → stands_in p x s ≡ true → stands_in p s q ≡ true
    → stands_in p x q ≡ true
stands_through p q s x v h g = stands_on MOST_NESTING p q s x v h g

-- ---- in order

child_listed : (d : ℕ) (p : Program) (q t x : ℕ) → IsTrue (has (inner_at p.stmts t) x)
    → IsTrue (has (preorder d p.stmts q) t) → IsTrue (has (preorder (suc d) p.stmts q) x)
unfolding preorder
child_listed zero p q t x i h = absurd (true≢false (sym h))
child_listed (suc d) p q t x i h = has_later q x (flat_map (preorder (suc d) p.stmts) (inner_at p.stmts q))
    (elim (has_cons q t (flat_map (preorder d p.stmts) (inner_at p.stmts q)) h) [
      | inl e ↦ flat_from (preorder (suc d) p.stmts) (inner_at p.stmts q) x x
          (subst (λ z. IsTrue (has (inner_at p.stmts z) x)) (sym e) i)
          (has_first x (flat_map (preorder d p.stmts) (inner_at p.stmts x)))
      | inr e ↦
          let c = flat_gives (preorder d p.stmts) (inner_at p.stmts q) t e in
          flat_from (preorder (suc d) p.stmts) (inner_at p.stmts q) c.0 x c.1 (child_listed d p c.0 t x i c.2)
    ])

first_listed : (d : ℕ) (p : Program) (q : ℕ) → IsTrue (has (preorder (suc d) p.stmts q) q)
unfolding preorder
first_listed d p q = has_first q (flat_map (preorder d p.stmts) (inner_at p.stmts q))

listed_at : (d : ℕ) (p : Program) (q x : ℕ) → IsValid p → stands_at d p.stmts q (Some x) ≡ true
    → IsTrue (has (preorder d p.stmts q) x)
listed_at zero p q x v h = absurd (true≢false (sym h ∙ no_steps p q x))
listed_at (suc d) p q x v h =
    elim (or_cases (nat_eq x q) (stands_at d p.stmts q (option_and_then (λ x. x.parent) (slice_get p.stmts x)))
    (sym (outwards d p q x) ∙ h)) [
      | inl e ↦ subst (λ z. IsTrue (has (preorder (suc d) p.stmts q) z)) (sym (eqb-true x q e)) (first_listed d p q)
      | inr e ↦ (let o : IsOut p d q x = out_of p d q x e in child_listed d p q o.outer x
          (stands_in_parent p x o.outer o.stmt v o.there o.parent).1 (listed_at d p q o.outer v o.on))
    ]

-- what stands in a loop is one of its statements
pub within_listed : (p : Program) (q x : ℕ) → IsValid p → stands_in p x q ≡ true → IsTrue (has (preorder MOST_NESTING p.stmts q) x)
within_listed p q x v h = listed_at MOST_NESTING p q x v h

within_at : (d : ℕ) (p : Program) (q x : ℕ) → IsValid p → IsTrue (has (preorder d p.stmts q) x) → stands_in p x q ≡ true
unfolding preorder
within_at zero p q x v h = absurd (true≢false (sym h))
within_at (suc d) p q x v h = elim (has_cons q x (flat_map (preorder d p.stmts) (inner_at p.stmts q)) h) [
  | inl e ↦ subst (λ z. stands_in p z q ≡ true) e (in_itself p q)
  | inr e ↦
      let c = flat_gives (preorder d p.stmts) (inner_at p.stmts q) x e in
      let y = child_stands p q c.0 v c.1 in
      stands_through p q c.0 x v (within_at d p c.0 x v c.2) (in_parent p c.0 q y.0 y.1 y.2)
]

-- and the other way
pub listed_within : (p : Program) (q x : ℕ) → IsValid p → IsTrue (has (preorder MOST_NESTING p.stmts q) x) → stands_in p x q ≡ true
listed_within p q x v h = within_at MOST_NESTING p q x v h
