-- Tests that decide facts.
use Rattle.std.proofs.Common.{ℤ, ◌≡◌, ◌↔◌, ◌⊎◌, inl, inr, ℕ, Bool, true, false, IsTrue, List, length, ◌<◌, get_or, sym, subst}
use Rattle.ppd_ast.specs.declared.program.Expr.{Expr}
use Rattle.ppd_ast.specs.declared.program.Expr.TheVariants as E
use Rattle.ppd_ast.specs.declared.program.Op.{Op}
use Rattle.ppd_ast.specs.Table.{EachAt, AreChildrenBelow}
use Rattle.ppd_ast.specs.Term.{Term, const, local, local_at, shared, shared_at, neg, not, two, and, or, node, term, terms}
use Rattle.ppd_ast.proofs.Terms.{term_read}

-- the second of two tests, where the first held
pub second_test : {A B : Type 0} (q r : Bool) → q ≡ true → IsTrue q ↔ A → IsTrue r ↔ B → IsTrue r ↔ (A × B)
second_test {A} {B} q r is f g =
    let a : A = f.0 is in
    (λ h. (a, g.0 h), λ h. g.1 h.1)

-- the first of two tests, where it failed
pub first_test : {A B : Type 0} (q : Bool) → q ≡ false → IsTrue q ↔ A → IsTrue q ↔ (A × B)
first_test {A} {B} q is f =
    (λ h. cc, λ h. f.1 h.0)

-- what holds of an expression that the code has read, made of its children's trees, holds of its tree
pub at_node : (P : Term → Type 0) (es : List Expr) (i : ℕ) (d e : Expr) → EachAt AreChildrenBelow es → i < length es → get_or es i d ≡ e → P (node (terms es) e) → P (term es i)
at_node P es i d e below inside read h = subst P (sym (term_read es i d e below inside read)) h

-- the same of an expression with one operand or with two
pub at_single : (P : Term → Type 0) (es : List Expr) (i a : ℕ) (d : Expr) → EachAt AreChildrenBelow es → i < length es
    → (get_or es i d ≡ E.Neg a) ⊎ (get_or es i d ≡ E.Not a) → P (neg (term es a)) → P (not (term es a)) → P (term es i)
at_single P es i a d below inside is x y =
    elim is [ inl e ↦ at_node P es i d _ below inside e x | inr e ↦ at_node P es i d _ below inside e y ]

pub at_pair : (P : Term → Type 0) (es : List Expr) (i a b : ℕ) (d : Expr) → EachAt AreChildrenBelow es → i < length es
    → ((op : Op) × (get_or es i d ≡ E.Two op a b)) ⊎ ((get_or es i d ≡ E.And a b) ⊎ (get_or es i d ≡ E.Or a b))
    → ((op : Op) → P (two op (term es a) (term es b))) → P (and (term es a) (term es b)) → P (or (term es a) (term es b)) → P (term es i)
at_pair P es i a b d below inside is x y z =
    elim is [
      | inl e ↦ at_node P es i d _ below inside e.1 (x e.0)
      | inr k ↦ elim k [ inl e ↦ at_node P es i d _ below inside e y | inr e ↦ at_node P es i d _ below inside e z ]
    ]

-- the same of a leaf, and of an element
pub at_leaf : (P : Term → Type 0) (es : List Expr) (i : ℕ) (d : Expr) → EachAt AreChildrenBelow es → i < length es
    → ((v : ℤ) × (get_or es i d ≡ E.Const v)) ⊎ (((n : ℕ) × (get_or es i d ≡ E.Local n)) ⊎ ((n : ℕ) × (get_or es i d ≡ E.Shared n)))
    → ((v : ℤ) → P (const v)) → ((n : ℕ) → P (local n)) → ((n : ℕ) → P (shared n)) → P (term es i)
at_leaf P es i d below inside is x y z =
    elim is [
      | inl e ↦ at_node P es i d _ below inside e.1 (x e.0)
      | inr k ↦ elim k [ inl e ↦ at_node P es i d _ below inside e.1 (y e.0) | inr e ↦ at_node P es i d _ below inside e.1 (z e.0) ]
    ]

pub at_element : (P : Term → Type 0) (es : List Expr) (i a : ℕ) (d : Expr) → EachAt AreChildrenBelow es → i < length es
    → ((base : ℕ) × (len : ℕ) × (get_or es i d ≡ E.LocalAt base len a)) ⊎ ((base : ℕ) × (len : ℕ) × (get_or es i d ≡ E.SharedAt base len a))
    → ((base len : ℕ) → P (local_at base len (term es a))) → ((base len : ℕ) → P (shared_at base len (term es a))) → P (term es i)
at_element P es i a d below inside is x y =
    elim is [
      | inl e ↦ at_node P es i d _ below inside e.2 (x e.0 e.1)
      | inr e ↦ at_node P es i d _ below inside e.2 (y e.0 e.1)
    ]
