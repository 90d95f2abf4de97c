-- Each expression of a table is used in one place.
use Rattle.std.proofs.Common.{◌≡◌, refl, sym, ap, ◌∙◌, ℕ, zero, suc, ◌+◌, ◌<◌, ◌≤◌, cond, nat_eq, arith, List, [], ◌∷◌, ◌++◌, Option, Some, None, inl, inr}
use Rattle.std.specs.List.{count_by, flat_map, range_with_len}
use Rattle.std.proofs.lemmas.List.{append-nil}
use Rattle.std.proofs.lemmas.List.Sums.{sum_by-append}
use Rattle.std.proofs.lemmas.Grind.{flat_map-append}
use Rattle.std.proofs.lemmas.Bool.{cases_eq}
use Rattle.std.proofs.lemmas.Bool.Decides.{nat_tests}
use Rattle.ppd_ast.specs.declared.program.Expr.{Expr}
use Rattle.ppd_ast.specs.declared.program.Stmt.{Stmt}
use Rattle.ppd_ast.specs.Term.{Term, const, local, local_at, shared, shared_at, neg, not, two, and, or}
use Rattle.ppd_ast.specs.Uses.{children, kind_uses, stmt_uses}
use Rattle.ppd_check_stmts.specs.Code.{Code, Act, done, act, choice, loop, count}
use Rattle.ppd_check_stmts.specs.Code as C
use Rattle.ppd_check_names.specs.Fitted.{fitted}
use Rattle.ppd_check_stmts.specs.Table.{weight, weights, root, roots, flat, flats, terms, act_terms, kind, stmts}
use Rattle.ppd_check.specs.Sources.{all_stmts}
use Rattle.ppd_check_stmts.proofs.Table.Writing.{roots_append}
use Rattle.ppd_check.proofs.Valid.Order.{range_join}

-- Numbers among numbers.

-- how often a number stands in a list
abbrev pub times : ℕ → List ℕ → ℕ
times e xs = count_by (nat_eq e) xs

times_append : (e : ℕ) (xs ys : List ℕ) → times e (xs ++ ys) ≡ times e xs + times e ys
times_append e xs ys = sum_by-append (λ x. cond (nat_eq e x) 1 0) xs ys

times_cons : (e x : ℕ) (ys : List ℕ) → times e (x ∷ ys) ≡ times e (x ∷ []) + times e ys
times_cons e x ys = times_append e (x ∷ []) ys

times_range : (e m j k : ℕ) → times e (range_with_len m j) + times e (range_with_len (m + j) k) ≡ times e (range_with_len m (j + k))
times_range e m j k = sym (times_append e (range_with_len m j) (range_with_len (m + j) k)) ∙ ap (times e) (range_join m j k)

-- one more number behind a range
times_last : (e m k : ℕ) → times e (range_with_len m k) + times e ((m + k) ∷ []) ≡ times e (range_with_len m (suc k))
times_last e m k = let f : k + 1 ≡ suc k = omega arith in times_range e m k 1 ∙ ap (λ n. times e (range_with_len m n)) f

times_one : (e x : ℕ) → (e ≡ x → times e (x ∷ []) ≡ 1) × ((e ≡ x → ⊥) → times e (x ∷ []) ≡ 0)
times_one e x = (λ h. grind (arith, nat_tests, h), λ h. grind (arith, nat_tests, h))

before_range : (e a n : ℕ) → e < a → times e (range_with_len a n) ≡ 0
before_range e a zero h = refl
before_range e a (suc n) h =
    let one : times e (a ∷ []) ≡ 0 = (times_one e a).1 (λ g. omega (arith, g, h)) in
    omega (arith, one, times_cons e a (range_with_len (a + 1) n), before_range e (a + 1) n (omega (arith, h)))

-- a range has each of its numbers once
in_range : (e a n : ℕ) → a ≤ e → e < a + n → times e (range_with_len a n) ≡ 1
in_range e a zero l h = absurd (omega (arith, l, h))
in_range e a (suc n) l h =
    elim (cases_eq e a) [
      | inl g ↦
          let one : times e (a ∷ []) ≡ 1 = (times_one e a).0 g in
          omega (arith, one, times_cons e a (range_with_len (a + 1) n), before_range e (a + 1) n (omega (arith, g)))
      | inr g ↦
          let one : times e (a ∷ []) ≡ 0 = (times_one e a).1 g in
          omega (arith, one, times_cons e a (range_with_len (a + 1) n), in_range e (a + 1) n (omega (arith, l, g)) (omega (arith, h)))
    ]

-- The expressions below a term.

-- how often a number is used by these expressions
abbrev below_uses : ℕ → List Expr → ℕ
below_uses e xs = times e (flat_map children xs)

uses_append : (e : ℕ) (xs ys : List Expr) → below_uses e (xs ++ ys) ≡ below_uses e xs + below_uses e ys
uses_append e xs ys = ap (times e) (flat_map-append children xs ys) ∙ times_append e (flat_map children xs) (flat_map children ys)

uses_last : (e : ℕ) (xs : List Expr) (x : Expr) → below_uses e (xs ++ x ∷ []) ≡ below_uses e xs + times e (children x)
uses_last e xs x = uses_append e xs (x ∷ []) ∙ ap (λ l. below_uses e xs + times e l) (append-nil (children x))

one_leaf : (e m : ℕ) → 0 + times e ((m + 0) ∷ []) ≡ times e (range_with_len m 1)
one_leaf e m = let f : m + 0 ≡ m = omega arith in let g : 0 + times e ((m + 0) ∷ []) ≡ times e ((m + 0) ∷ []) = omega arith in g ∙ ap (λ k. times e (k ∷ [])) f

-- an expression over the one before it
over_one : (e m w r : ℕ) (xs : List Expr) (x : Expr) → below_uses e xs + times e (r ∷ []) ≡ times e (range_with_len m w) → children x ≡ r ∷ []
    → below_uses e (xs ++ x ∷ []) + times e ((m + w) ∷ []) ≡ times e (range_with_len m (suc w))
over_one e m w r xs x h c =
    let u : below_uses e (xs ++ x ∷ []) ≡ below_uses e xs + times e (r ∷ []) = uses_last e xs x ∙ ap (λ l. below_uses e xs + times e l) c in
    let v : times e (range_with_len m w) + times e ((m + w) ∷ []) ≡ times e (range_with_len m (suc w)) = times_last e m w in
    omega (arith, h, u, v)

over_two : (e m v w r s : ℕ) (xs ys : List Expr) (x : Expr) → below_uses e xs + times e (r ∷ []) ≡ times e (range_with_len m v)
    → below_uses e ys + times e (s ∷ []) ≡ times e (range_with_len (m + v) w) → children x ≡ r ∷ s ∷ []
    → below_uses e (xs ++ (ys ++ x ∷ [])) + times e ((m + (v + w)) ∷ []) ≡ times e (range_with_len m (suc (v + w)))
over_two e m v w r s xs ys x h i c =
    let u : below_uses e (xs ++ (ys ++ x ∷ [])) ≡ below_uses e xs + below_uses e (ys ++ x ∷ []) = uses_append e xs (ys ++ x ∷ []) in
    let t : below_uses e (ys ++ x ∷ []) ≡ below_uses e ys + times e (r ∷ s ∷ []) = uses_last e ys x ∙ ap (λ l. below_uses e ys + times e l) c in
    let o : times e (r ∷ s ∷ []) ≡ times e (r ∷ []) + times e (s ∷ []) = times_cons e r (s ∷ []) in
    let j : times e (range_with_len m v) + times e (range_with_len (m + v) w) ≡ times e (range_with_len m (v + w)) = times_range e m v w in
    let k : times e (range_with_len m (v + w)) + times e ((m + (v + w)) ∷ []) ≡ times e (range_with_len m (suc (v + w))) = times_last e m (v + w) in
    omega (arith, h, i, u, t, o, j, k)

-- with the term itself, each of its numbers is used once
term_uses : (e m : ℕ) (t : Term) → below_uses e (flat m t) + times e (root m t ∷ []) ≡ times e (range_with_len m (weight t))
term_uses e m (const v) = one_leaf e m
term_uses e m (local c) = one_leaf e m
term_uses e m (local_at base n i) = over_one e m (weight i) (root m i) (flat m i) _ (term_uses e m i) refl
term_uses e m (shared c) = one_leaf e m
term_uses e m (shared_at base n i) = over_one e m (weight i) (root m i) (flat m i) _ (term_uses e m i) refl
term_uses e m (neg a) = over_one e m (weight a) (root m a) (flat m a) _ (term_uses e m a) refl
term_uses e m (not a) = over_one e m (weight a) (root m a) (flat m a) _ (term_uses e m a) refl
term_uses e m (two op a b) = over_two e m (weight a) (weight b) (root m a) (root (m + weight a) b) (flat m a) (flat (m + weight a) b) _ (term_uses e m a) (term_uses e (m + weight a) b) refl
term_uses e m (and a b) = over_two e m (weight a) (weight b) (root m a) (root (m + weight a) b) (flat m a) (flat (m + weight a) b) _ (term_uses e m a) (term_uses e (m + weight a) b) refl
term_uses e m (or a b) = over_two e m (weight a) (weight b) (root m a) (root (m + weight a) b) (flat m a) (flat (m + weight a) b) _ (term_uses e m a) (term_uses e (m + weight a) b) refl

terms_uses : (e m : ℕ) (ts : List Term) → below_uses e (flats m ts) + times e (roots m ts) ≡ times e (range_with_len m (weights ts))
terms_uses e m [] = refl
terms_uses e m (t ∷ ts) =
    let u : below_uses e (flat m t ++ flats (m + weight t) ts) ≡ below_uses e (flat m t) + below_uses e (flats (m + weight t) ts) = uses_append e (flat m t) (flats (m + weight t) ts) in
    let v : times e (root m t ∷ roots (m + weight t) ts) ≡ times e (root m t ∷ []) + times e (roots (m + weight t) ts) = times_cons e (root m t) (roots (m + weight t) ts) in
    let h : below_uses e (flat m t) + times e (root m t ∷ []) ≡ times e (range_with_len m (weight t)) = term_uses e m t in
    let i : below_uses e (flats (m + weight t) ts) + times e (roots (m + weight t) ts) ≡ times e (range_with_len (m + weight t) (weights ts)) = terms_uses e (m + weight t) ts in
    let j : times e (range_with_len m (weight t)) + times e (range_with_len (m + weight t) (weights ts)) ≡ times e (range_with_len m (weight t + weights ts)) = times_range e m (weight t) (weights ts) in
    omega (arith, u, v, h, i, j)

-- The expressions of statements.

pub act_uses : (m : ℕ) (a : Act) → kind_uses (kind m a) ≡ roots m (act_terms a)
act_uses m (C.set (C.local c) e) = let f : m + 0 ≡ m = omega arith in ap (λ k. root k e ∷ []) f
act_uses m (C.set (C.local_at base n i) e) = let f : m + (weight i + 0) ≡ m + weight i = omega arith in ap (λ k. root m i ∷ root k e ∷ []) f
act_uses m (C.set (C.shared c) e) = let f : m + 0 ≡ m = omega arith in ap (λ k. root k e ∷ []) f
act_uses m (C.set (C.shared_at base n i) e) = let f : m + (weight i + 0) ≡ m + weight i = omega arith in ap (λ k. root m i ∷ root k e ∷ []) f
act_uses m (C.clear base n) = refl
act_uses m (C.call f args into) = refl
act_uses m (C.give_back None) = refl
act_uses m (C.give_back (Some v)) = refl
act_uses m (C.take j) = refl
act_uses m (C.give j) = refl
act_uses m (C.send j e) = refl
act_uses m (C.receive j d) = refl
act_uses m (C.print e) = refl
act_uses m (C.assert e) = refl
act_uses m C.finish = refl

-- the statements of a row use its terms, one after another
row_uses : (b : ℕ) (q : Option ℕ) (n m : ℕ) (c : Code) → flat_map stmt_uses (stmts b q n m c) ≡ roots m (terms c)
row_uses b q n m done = refl
row_uses b q n m (act p a c) =
    ap (λ l. l ++ flat_map stmt_uses (stmts b q (n + 1) (m + weights (act_terms a)) c)) (act_uses m a)
    ∙ ap (λ l. roots m (act_terms a) ++ l) (row_uses b q (n + 1) (m + weights (act_terms a)) c)
    ∙ sym (roots_append m (act_terms a) (terms c))
row_uses b q n m (choice p e x y c) =
    let n1 : ℕ = n + 1 in
    let n2 : ℕ = n1 + count x in
    let n3 : ℕ = n2 + count y in
    let m1 : ℕ = m + weight e in
    let m2 : ℕ = m1 + weights (terms x) in
    let m3 : ℕ = m2 + weights (terms y) in
    let xs : List Stmt = stmts b (Some n) n1 m1 x in
    let ys : List Stmt = stmts b (Some n) n2 m2 y in
    let zs : List Stmt = stmts b q n3 m3 c in
    ap (λ l. root m e ∷ l)
    (flat_map-append stmt_uses xs (ys ++ zs)
    ∙ ap (λ l. flat_map stmt_uses xs ++ l) (flat_map-append stmt_uses ys zs)
    ∙ ap (λ l. l ++ (flat_map stmt_uses ys ++ flat_map stmt_uses zs)) (row_uses b (Some n) n1 m1 x)
    ∙ ap (λ l. roots m1 (terms x) ++ (l ++ flat_map stmt_uses zs)) (row_uses b (Some n) n2 m2 y)
    ∙ ap (λ l. roots m1 (terms x) ++ (roots m2 (terms y) ++ l)) (row_uses b q n3 m3 c)
    ∙ ap (λ l. roots m1 (terms x) ++ l) (sym (roots_append m2 (terms y) (terms c)))
    ∙ sym (roots_append m1 (terms x) (terms y ++ terms c)))
row_uses b q n m (loop p e x c) =
    let n1 : ℕ = n + 1 in
    let n2 : ℕ = n1 + count x in
    let m1 : ℕ = m + weight e in
    let m2 : ℕ = m1 + weights (terms x) in
    let xs : List Stmt = stmts b (Some n) n1 m1 x in
    let zs : List Stmt = stmts b q n2 m2 c in
    ap (λ l. root m e ∷ l)
    (flat_map-append stmt_uses xs zs
    ∙ ap (λ l. l ++ flat_map stmt_uses zs) (row_uses b (Some n) n1 m1 x)
    ∙ ap (λ l. roots m1 (terms x) ++ l) (row_uses b q n2 m2 c)
    ∙ sym (roots_append m1 (terms x) (terms c)))

bodies_uses : (b n m : ℕ) (cs : List Code) → flat_map stmt_uses (all_stmts b n m cs) ≡ roots m (flat_map terms cs)
bodies_uses b n m [] = refl
bodies_uses b n m (c ∷ cs) =
    let rest : List Stmt = all_stmts (b + 1) (n + count c) (m + weights (terms c)) cs in
    flat_map-append stmt_uses (stmts (fitted 16 b) None n m c) rest
    ∙ ap (λ l. l ++ flat_map stmt_uses rest) (row_uses (fitted 16 b) None n m c)
    ∙ ap (λ l. roots m (terms c) ++ l) (bodies_uses (b + 1) (n + count c) (m + weights (terms c)) cs)
    ∙ sym (roots_append m (terms c) (flat_map terms cs))

-- each expression of the rows is used once
pub used_once : (e : ℕ) (cs : List Code) → e < weights (flat_map terms cs)
    → count_by (nat_eq e) (flat_map children (flats 0 (flat_map terms cs)) ++ flat_map stmt_uses (all_stmts 0 0 0 cs)) ≡ 1
used_once e cs h =
    let ts : List Term = flat_map terms cs in
    times_append e (flat_map children (flats 0 ts)) (flat_map stmt_uses (all_stmts 0 0 0 cs))
    ∙ ap (λ l. below_uses e (flats 0 ts) + times e l) (bodies_uses 0 0 0 cs)
    ∙ terms_uses e 0 ts
    ∙ in_range e 0 (weights ts) (omega arith) (omega (arith, h))
