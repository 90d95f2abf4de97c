-- In a valid program: whether a statement stands in another one.
use Rattle.std.proofs.Common.{◌-◌, ◌≡◌, ◌≢◌, ℕ, zero, suc, ◌+◌, ◌<◌, ◌≤◌, Bool, true, false, Option, Some, None, refl, sym, subst, ap, ◌∙◌, arith, inl, inr, true≢false, ◌||◌}
use Rattle.std.specs.Prelude.{IsTrue, nat_eq, slice_get, ⊤, option_and_then}
use Rattle.std.specs.List.{flat_map}
use Rattle.std.proofs.lemmas.Bool.{eq-eqb, ne_eqb}
use Rattle.ppd_ast.specs.declared.program.Program.{Program}
use Rattle.ppd_ast.specs.declared.program.Stmt.{Stmt}
use Rattle.ppd_ast.specs.Order.{preorder}
use Rattle.ppd_ast.proofs.Vocabulary.{inner_at}
use Rattle.ppd_ast.specs.Valid.{IsValid}
use Rattle.ppd_ast.specs.Members.{has}
use Rattle.ppd_ast.proofs.Members.{has_cons, flat_gives}
use Rattle.ppd_ast.specs.declared.limits.TheConstants.{MOST_NESTING}
use Rattle.ppd_blocks.specs.Walk.{stands_at, stands_in}
use Rattle.law_steps.proofs.Course.Rising.{Place, child_stands, parent_below, place_of, top_stands}

or_no : (a b : Bool) → a ≡ false → b ≡ false → (a || b) ≡ false
or_no true b e h = e
or_no false b e h = h

or_yes : (a b : Bool) → a ≡ true → (a || b) ≡ true
or_yes true b e = refl
or_yes false b e = absurd (true≢false (sym e))

-- ---- no statement stands in a later one

IsBelow : ℕ → Option ℕ → Type 0
IsBelow n None = ⊤
IsBelow n (Some q) = q < n

outer_below : (p : Program) (q n : ℕ) (o : Option Stmt) → IsValid p → slice_get p.stmts q ≡ o → q < n → IsBelow n (option_and_then (λ (x : Stmt). x.parent) o)
unfolding IsBelow
outer_below p q n None v at lt = tt
outer_below p q n (Some x) v at lt = by x.parent refl
  where
    by : (o : Option ℕ) → x.parent ≡ o → IsBelow n o
    by None is = tt
    by (Some r) is = let less : r < q = parent_below p q r x v at is in omega arith

above_all : (d : ℕ) (p : Program) (n : ℕ) (o : Option ℕ) → IsValid p → IsBelow n o → stands_at d p.stmts n o ≡ false
unfolding stands_at IsBelow
above_all zero p n o v h = refl
above_all (suc d) p n None v h = refl
above_all (suc d) p n (Some q) v h =
    let other : nat_eq q n ≡ false = ne_eqb q n (λ e. omega arith) in
    or_no (nat_eq q n) (stands_at d p.stmts n (option_and_then (λ x. x.parent) (slice_get p.stmts q))) other
    (above_all d p n (option_and_then (λ x. x.parent) (slice_get p.stmts q)) v (outer_below p q n (slice_get p.stmts q) v refl h))

pub not_in_later : (p : Program) (s t : ℕ) → IsValid p → s < t → stands_in p s t ≡ false
unfolding IsBelow
not_in_later p s t v lt = above_all MOST_NESTING p t (Some s) v lt

-- ---- one step outwards

pub outwards : (d : ℕ) (p : Program) (u x : ℕ) → stands_at (suc d) p.stmts u (Some x) ≡ (nat_eq x u || stands_at d p.stmts u (option_and_then (λ x. x.parent) (slice_get p.stmts x)))
unfolding stands_at
outwards d p u x = refl

outwards_to : (d : ℕ) (p : Program) (u x t : ℕ) (y : Stmt) → slice_get p.stmts x ≡ Some y → y.parent ≡ Some t → stands_at (suc d) p.stmts u (Some x) ≡ (nat_eq x u || stands_at d p.stmts u (Some t))
outwards_to d p u x t y at is = outwards d p u x ∙ ap (λ (o : Option Stmt). nat_eq x u || stands_at d p.stmts u (option_and_then (λ (x : Stmt). x.parent) o)) at ∙ ap (λ o. nat_eq x u || stands_at d p.stmts u o) is

-- a statement stands in itself, and in its parent
pub in_itself : (p : Program) (t : ℕ) → stands_in p t t ≡ true
in_itself p t = outwards (MOST_NESTING - 1) p t t ∙ or_yes (nat_eq t t) (stands_at (MOST_NESTING - 1) p.stmts t (option_and_then (λ x. x.parent) (slice_get p.stmts t))) (eq-eqb t t refl)

pub in_parent : (p : Program) (x t : ℕ) (y : Stmt) → slice_get p.stmts x ≡ Some y → y.parent ≡ Some t → stands_in p x t ≡ true
in_parent p x t y at is =
    outwards_to (MOST_NESTING - 1) p t x t y at is
    ∙ ap (λ b. nat_eq x t || b) (outwards 62 p t t ∙ or_yes (nat_eq t t) (stands_at 62 p.stmts t (option_and_then (λ x. x.parent) (slice_get p.stmts t))) (eq-eqb t t refl)) ∙ or_true (nat_eq x t)
  where
    or_true : (b : Bool) → (b || true) ≡ true
    or_true true = refl
    or_true false = refl

-- ---- so few others that the depth is enough

-- to look further out finds nothing more
IsDeep : ℕ → Program → ℕ → Type 0
IsDeep e p s = (m u : ℕ) → e ≤ m → stands_at m p.stmts u (Some s) ≡ stands_at e p.stmts u (Some s)

deeper : (e f : ℕ) (p : Program) (s : ℕ) → e ≤ f → IsDeep e p s → IsDeep f p s
unfolding IsDeep
deeper e f p s le h m u l = h m u (omega arith) ∙ sym (h f u le)

pub none_outer : (m : ℕ) (p : Program) (u : ℕ) → stands_at m p.stmts u None ≡ false
unfolding stands_at
none_outer zero p u = refl
none_outer (suc m) p u = refl

top_deep : (p : Program) (s : ℕ) (y : Stmt) → slice_get p.stmts s ≡ Some y → y.parent ≡ None → IsDeep 1 p s
unfolding IsDeep
top_deep p s y at is zero u l = absurd (omega arith)
top_deep p s y at is (suc m) u l = one m ∙ sym (one 0)
  where
    one : (m : ℕ) → stands_at (suc m) p.stmts u (Some s) ≡ (nat_eq s u || false)
    one m = outwards m p u s ∙ ap (λ (o : Option Stmt). nat_eq s u || stands_at m p.stmts u (option_and_then (λ (x : Stmt). x.parent) o)) at ∙ ap (λ o. nat_eq s u || stands_at m p.stmts u o) is ∙ ap (λ b. nat_eq s u || b) (none_outer m p u)

child_deep : (e : ℕ) (p : Program) (c t : ℕ) (y : Stmt) → slice_get p.stmts c ≡ Some y → y.parent ≡ Some t → IsDeep e p t → IsDeep (suc e) p c
unfolding IsDeep
child_deep e p c t y at is h zero u l = absurd (omega arith)
child_deep e p c t y at is h (suc m) u l = outwards_to m p u c t y at is ∙ ap (λ b. nat_eq c u || b) (h m u (omega arith)) ∙ sym (outwards_to e p u c t y at is)

inside_deep : (d e : ℕ) (p : Program) (t s : ℕ) → IsValid p → e + d ≤ (MOST_NESTING + 1) → IsDeep e p t → IsTrue (has (preorder d p.stmts t) s) → IsDeep MOST_NESTING p s
unfolding preorder
inside_deep zero e p t s v l k h = absurd (true≢false (sym h))
inside_deep (suc d) e p t s v l k h =
    elim (has_cons t s (flat_map (preorder d p.stmts) (inner_at p.stmts t)) h) [
      | inl same ↦ subst (IsDeep MOST_NESTING p) same (deeper e MOST_NESTING p t (omega arith) k)
      | inr later ↦
          let c = flat_gives (preorder d p.stmts) (inner_at p.stmts t) s later in
          let y = child_stands p t c.0 v c.1 in
          inside_deep d (suc e) p c.0 s v (omega arith) (child_deep e p c.0 t y.0 y.1 y.2 k) c.2
    ]

all_deep : (p : Program) (s : ℕ) (x : Stmt) → IsValid p → slice_get p.stmts s ≡ Some x → IsDeep MOST_NESTING p s
all_deep p s x v at =
    let place : Place p s = place_of p s x v at in
    let top = top_stands p place.number place.outer place.body v place.body_is place.is_top in
    inside_deep MOST_NESTING 1 p place.outer s v (omega arith) (top_deep p place.outer top.0 top.1 top.2) place.inside

-- a statement stands in another one where its parent does
pub as_parent : (p : Program) (x t u : ℕ) (y : Stmt) → IsValid p → slice_get p.stmts x ≡ Some y → y.parent ≡ Some t → x ≢ u → stands_in p x u ≡ stands_in p t u
unfolding IsDeep
as_parent p x t u y v at is other =
    sym (all_deep p x y v at (MOST_NESTING + 1) u (omega arith)) ∙ outwards_to MOST_NESTING p u x t y at is ∙ ap (λ b. b || stands_at MOST_NESTING p.stmts u (Some t)) (ne_eqb x u other)
