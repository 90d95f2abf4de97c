-- The expressions of a table have their children before them, and read back as the terms that they were made of.
use Rattle.std.proofs.Common.{◌≡◌, refl, sym, ap, ◌∙◌, subst, ℕ, ◌+◌, ◌<◌, arith, List, [], ◌∷◌, ◌++◌, length, Some}
use Rattle.std.specs.Prelude.{slice_get}
use Rattle.std.specs.List.{AllByRecursion}
use Rattle.std.proofs.lemmas.Option.{slice_get_within}
use Rattle.ppd_ast.specs.declared.program.Expr.{Expr}
use Rattle.ppd_ast.specs.Term.{Term, const, local, local_at, shared, shared_at, neg, not, two, and, or, term}
use Rattle.ppd_ast.specs.Term as T
use Rattle.ppd_ast.specs.Table.{AreChildrenBelow}
use Rattle.ppd_ast.proofs.Terms.{term-node}
use Rattle.ppd_check_stmts.specs.Table.{weight, root, roots, flat, flats}
use Rattle.ppd_check_stmts.proofs.Table.Flat.{length_flat}
use Rattle.ppd_check.proofs.Valid.Lists.{EachFrom, Stands, each_append, stands_append}

-- Children.

one : (m : ℕ) (t : Term) (e : Expr) → EachFrom AreChildrenBelow m (flat m t) → AreChildrenBelow (m + weight t) e → EachFrom AreChildrenBelow m (flat m t ++ e ∷ [])
one m t e a h = each_append AreChildrenBelow m (m + weight t) (flat m t) (e ∷ []) (ap (λ n. m + n) (length_flat m t)) a (h, tt)

both_parts : (m : ℕ) (s t : Term) (e : Expr) → EachFrom AreChildrenBelow m (flat m s) → EachFrom AreChildrenBelow (m + weight s) (flat (m + weight s) t)
    → AreChildrenBelow (m + weight s + weight t) e → EachFrom AreChildrenBelow m (flat m s ++ (flat (m + weight s) t ++ e ∷ []))
both_parts m s t e a b h =
    each_append AreChildrenBelow m (m + weight s) (flat m s) (flat (m + weight s) t ++ e ∷ []) (ap (λ n. m + n) (length_flat m s)) a (one (m + weight s) t e b h)

children_below : (m : ℕ) (t : Term) → EachFrom AreChildrenBelow m (flat m t)
children_below m (const v) = (tt, tt)
children_below m (local c) = (tt, tt)
children_below m (local_at base n i) = one m i _ (children_below m i) (omega arith)
children_below m (shared c) = (tt, tt)
children_below m (shared_at base n i) = one m i _ (children_below m i) (omega arith)
children_below m (neg a) = one m a _ (children_below m a) (omega arith)
children_below m (not a) = one m a _ (children_below m a) (omega arith)
children_below m (two op a b) = both_parts m a b _ (children_below m a) (children_below (m + weight a) b) (omega arith, omega arith)
children_below m (and a b) = both_parts m a b _ (children_below m a) (children_below (m + weight a) b) (omega arith, omega arith)
children_below m (or a b) = both_parts m a b _ (children_below m a) (children_below (m + weight a) b) (omega arith, omega arith)

pub all_children_below : (m : ℕ) (ts : List Term) → EachFrom AreChildrenBelow m (flats m ts)
all_children_below m [] = tt
all_children_below m (t ∷ ts) =
    each_append AreChildrenBelow m (m + weight t) (flat m t) (flats (m + weight t) ts) (ap (λ n. m + n) (length_flat m t)) (children_below m t) (all_children_below (m + weight t) ts)

-- Terms.

pub stands_flat : (all : List Expr) (m : ℕ) (t : Term) (ys : List Expr) → Stands all m (flat m t ++ ys) → Stands all m (flat m t) × Stands all (m + weight t) ys
stands_flat all m t ys h =
    let parts : Stands all m (flat m t) × Stands all (m + length (flat m t)) ys = stands_append all (flat m t) ys m h in
    (parts.0, subst (λ k. Stands all (m + k) ys) (length_flat m t) parts.1)

leaf_is : (all : List Expr) (m : ℕ) (e : Expr) (t : Term) → slice_get all m ≡ Some e → AreChildrenBelow m e → T.node (T.terms all) e ≡ t → term all (m + 0) ≡ t
leaf_is all m e t h c n = let f : m + 0 ≡ m = omega arith in ap (term all) f ∙ term-node all m e h c ∙ n

-- an expression over two others
over_both : (all : List Expr) (m : ℕ) (a b : Term) (over : Term → Term → Term) (e : Expr) → term all (root m a) ≡ a → term all (root (m + weight a) b) ≡ b
    → slice_get all (m + weight a + weight b) ≡ Some e → AreChildrenBelow (m + weight a + weight b) e → T.node (T.terms all) e ≡ over (term all (root m a)) (term all (root (m + weight a) b))
    → term all (m + (weight a + weight b)) ≡ over a b
over_both all m a b over e x y at c n =
    let f : m + (weight a + weight b) ≡ m + weight a + weight b = omega arith in
    ap (term all) f ∙ term-node all (m + weight a + weight b) e at c ∙ n ∙ ap (λ s. over s (term all (root (m + weight a) b))) x ∙ ap (over a) y

-- the tree of a term's number is the term
pub term_is : (all : List Expr) (m : ℕ) (t : Term) → Stands all m (flat m t) → term all (root m t) ≡ t
term_is all m (const v) h = leaf_is all m _ (const v) h.0 tt refl
term_is all m (local c) h = leaf_is all m _ (local c) h.0 tt refl
term_is all m (local_at base n i) h =
    let p = stands_flat all m i _ h in
    term-node all (m + weight i) _ p.1.0 (omega arith) ∙ ap (local_at base n) (term_is all m i p.0)
term_is all m (shared c) h = leaf_is all m _ (shared c) h.0 tt refl
term_is all m (shared_at base n i) h =
    let p = stands_flat all m i _ h in
    term-node all (m + weight i) _ p.1.0 (omega arith) ∙ ap (shared_at base n) (term_is all m i p.0)
term_is all m (neg a) h = let p = stands_flat all m a _ h in term-node all (m + weight a) _ p.1.0 (omega arith) ∙ ap neg (term_is all m a p.0)
term_is all m (not a) h = let p = stands_flat all m a _ h in term-node all (m + weight a) _ p.1.0 (omega arith) ∙ ap not (term_is all m a p.0)
term_is all m (two op a b) h =
    over_both all m a b (two op) _ (term_is all m a (stands_flat all m a _ h).0) (term_is all (m + weight a) b (stands_flat all (m + weight a) b _ (stands_flat all m a _ h).1).0)
    (stands_flat all (m + weight a) b _ (stands_flat all m a _ h).1).1.0 (omega arith, omega arith) refl
term_is all m (and a b) h =
    over_both all m a b and _ (term_is all m a (stands_flat all m a _ h).0) (term_is all (m + weight a) b (stands_flat all (m + weight a) b _ (stands_flat all m a _ h).1).0)
    (stands_flat all (m + weight a) b _ (stands_flat all m a _ h).1).1.0 (omega arith, omega arith) refl
term_is all m (or a b) h =
    over_both all m a b or _ (term_is all m a (stands_flat all m a _ h).0) (term_is all (m + weight a) b (stands_flat all (m + weight a) b _ (stands_flat all m a _ h).1).0)
    (stands_flat all (m + weight a) b _ (stands_flat all m a _ h).1).1.0 (omega arith, omega arith) refl

leaf_there : (all : List Expr) (m : ℕ) (e : Expr) → slice_get all m ≡ Some e → m + 0 < length all
leaf_there all m e h = let l : m < length all = slice_get_within all m e h in omega (arith, l)

both_there : (all : List Expr) (m j k : ℕ) (e : Expr) → slice_get all (m + j + k) ≡ Some e → m + (j + k) < length all
both_there all m j k e h = let l : m + j + k < length all = slice_get_within all (m + j + k) e h in omega (arith, l)

-- a term's number is in the table
root_there : (all : List Expr) (m : ℕ) (t : Term) → Stands all m (flat m t) → root m t < length all
root_there all m (const v) h = leaf_there all m _ h.0
root_there all m (local c) h = leaf_there all m _ h.0
root_there all m (local_at base n i) h = slice_get_within all (m + weight i) _ (stands_flat all m i _ h).1.0
root_there all m (shared c) h = leaf_there all m _ h.0
root_there all m (shared_at base n i) h = slice_get_within all (m + weight i) _ (stands_flat all m i _ h).1.0
root_there all m (neg a) h = slice_get_within all (m + weight a) _ (stands_flat all m a _ h).1.0
root_there all m (not a) h = slice_get_within all (m + weight a) _ (stands_flat all m a _ h).1.0
root_there all m (two op a b) h = both_there all m (weight a) (weight b) _ (stands_flat all (m + weight a) b _ (stands_flat all m a _ h).1).1.0
root_there all m (and a b) h = both_there all m (weight a) (weight b) _ (stands_flat all (m + weight a) b _ (stands_flat all m a _ h).1).1.0
root_there all m (or a b) h = both_there all m (weight a) (weight b) _ (stands_flat all (m + weight a) b _ (stands_flat all m a _ h).1).1.0

-- what holds of the terms of a row holds of the trees of their numbers, which are there
pub each_root : (P : Term → Type 0) (all : List Expr) (m : ℕ) (ts : List Term) → Stands all m (flats m ts) → AllByRecursion P ts
    → AllByRecursion (λ i. (i < length all) × P (term all i)) (roots m ts)
each_root P all m [] h a = tt
each_root P all m (t ∷ ts) h a =
    let p = stands_flat all m t (flats (m + weight t) ts) h in
    ((root_there all m t p.0, subst P (sym (term_is all m t p.0)) a.0), each_root P all (m + weight t) ts p.1 a.1)
