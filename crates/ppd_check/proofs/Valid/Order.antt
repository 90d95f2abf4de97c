-- The statements of a row stand in the table where their numbers say: in pre-order, each with its parent and its body.
use Rattle.std.proofs.Common.{◌≡◌, refl, ap, ◌∙◌, subst, ℕ, zero, suc, ◌+◌, ◌-◌, ◌≤◌, arith, List, [], ◌∷◌, ◌++◌, length, Option, Some}
use Rattle.std.specs.Prelude.{slice_get, IsSomeAnd}
use Rattle.std.specs.List.{AllByRecursion, flat_map, range_with_len}
use Rattle.std.proofs.lemmas.Grind.{flat_map-append}
use Rattle.ppd_ast.specs.declared.program.Stmt.{Stmt}
use Rattle.ppd_ast.specs.Order.{inner, preorder}
use Rattle.ppd_ast.proofs.Vocabulary.{inner_of, inner_at}
use Rattle.ppd_check_stmts.specs.Code.{Code, Act, done, act, choice, loop, count}
use Rattle.ppd_check_stmts.specs.Code as C
use Rattle.ppd_check_stmts.specs.Table.{weight, weights, terms, act_terms, kind, numbers, stmts}
use Rattle.ppd_check_stmts.proofs.Table.Writing.{length_stmts}
use Rattle.ppd_check.proofs.Valid.Facts.{nesting}
use Rattle.ppd_check.proofs.Valid.Lists.{Stands, some_and, stands_append}

-- statements of a row, then others
pub stands_stmts : (all : List Stmt) (b : ℕ) (q : Option ℕ) (n m : ℕ) (c : Code) (ys : List Stmt) → Stands all n (stmts b q n m c ++ ys)
    → Stands all n (stmts b q n m c) × Stands all (n + count c) ys
stands_stmts all b q n m c ys h =
    let parts : Stands all n (stmts b q n m c) × Stands all (n + length (stmts b q n m c)) ys = stands_append all (stmts b q n m c) ys n h in
    (parts.0, subst (λ k. Stands all (n + k) ys) (length_stmts b q n m c) parts.1)

-- Parents and bodies.

abbrev pub IsIn : List Stmt → Option ℕ → (body : ℕ) → ℕ → Type 0
IsIn all q b i = IsSomeAnd (slice_get all i) (λ s. (s.parent ≡ q) × (s.body ≡ b))

pub stand_in : (all : List Stmt) (b : ℕ) (q : Option ℕ) (n m : ℕ) (c : Code) → Stands all n (stmts b q n m c) → AllByRecursion (IsIn all q b) (numbers n c)
stand_in all b q n m done h = tt
stand_in all b q n m (act p a c) h =
    (some_and (slice_get all n) _ (λ s. (s.parent ≡ q) × (s.body ≡ b)) h.0 (refl, refl), stand_in all b q (n + 1) (m + weights (act_terms a)) c h.1)
stand_in all b q n m (choice p e x y c) h =
    let n1 : ℕ = n + 1 in
    let n2 : ℕ = n1 + count x in
    let m1 : ℕ = m + weight e in
    let m2 : ℕ = m1 + weights (terms x) in
    let xs = stands_stmts all b (Some n) n1 m1 x (stmts b (Some n) n2 m2 y ++ stmts b q (n2 + count y) (m2 + weights (terms y)) c) h.1 in
    let ys = stands_stmts all b (Some n) n2 m2 y (stmts b q (n2 + count y) (m2 + weights (terms y)) c) xs.1 in
    (some_and (slice_get all n) _ (λ s. (s.parent ≡ q) × (s.body ≡ b)) h.0 (refl, refl), stand_in all b q (n2 + count y) (m2 + weights (terms y)) c ys.1)
stand_in all b q n m (loop p e x c) h =
    let n1 : ℕ = n + 1 in
    let m1 : ℕ = m + weight e in
    let xs = stands_stmts all b (Some n) n1 m1 x (stmts b q (n1 + count x) (m1 + weights (terms x)) c) h.1 in
    (some_and (slice_get all n) _ (λ s. (s.parent ≡ q) × (s.body ≡ b)) h.0 (refl, refl), stand_in all b q (n1 + count x) (m1 + weights (terms x)) c xs.1)

-- Pre-order.

pub range_join : (a m n : ℕ) → range_with_len a m ++ range_with_len (a + m) n ≡ range_with_len a (m + n)
range_join a zero n =
    let e : a + 0 ≡ a = omega arith in
    let f : n ≡ 0 + n = omega arith in
    ap (λ k. range_with_len k n) e ∙ ap (range_with_len a) f
range_join a (suc m) n =
    let e : a + suc m ≡ a + 1 + m = omega arith in
    let f : suc (m + n) ≡ suc m + n = omega arith in
    ap (λ l. a ∷ l) (ap (λ k. range_with_len (a + 1) m ++ range_with_len k n) e ∙ range_join (a + 1) m n)
    ∙ ap (range_with_len a) f

pub no_inner : (m : ℕ) (a : Act) → inner (kind m a) ≡ []
no_inner m (C.set t e) = refl
no_inner m (C.clear base n) = refl
no_inner m (C.call f args into) = refl
no_inner m (C.give_back v) = refl
no_inner m (C.take j) = refl
no_inner m (C.give j) = refl
no_inner m (C.send j e) = refl
no_inner m (C.receive j d) = refl
no_inner m (C.print e) = refl
no_inner m (C.assert e) = refl
no_inner m C.finish = refl

-- a statement with what stands inside it, then the rest
one_first : (all : List Stmt) (d n k j : ℕ) (s : Stmt) (is rest : List ℕ) → slice_get all n ≡ Some s → inner s.kind ≡ is
    → flat_map (preorder d all) is ≡ range_with_len (n + 1) k → flat_map (preorder (suc d) all) rest ≡ range_with_len (n + 1 + k) j
    → flat_map (preorder (suc d) all) (n ∷ rest) ≡ range_with_len n (suc (k + j))
unfolding preorder
one_first all d n k j s is rest at inside first later =
    let own : inner_at all n ≡ is = ap inner_of at ∙ inside in
    ap (λ l. (n ∷ flat_map (preorder d all) l) ++ flat_map (preorder (suc d) all) rest) own
    ∙ ap (λ l. (n ∷ l) ++ flat_map (preorder (suc d) all) rest) first
    ∙ ap (λ l. (n ∷ range_with_len (n + 1) k) ++ l) later
    ∙ ap (λ l. n ∷ l) (range_join (n + 1) k j)

pub in_order : (all : List Stmt) (b : ℕ) (q : Option ℕ) (n m d : ℕ) (c : Code) → nesting c ≤ d → Stands all n (stmts b q n m c)
    → flat_map (preorder d all) (numbers n c) ≡ range_with_len n (count c)
in_order all b q n m d done deep h = refl
in_order all b q n m zero (act p a c) deep h = absurd (omega (arith, deep))
in_order all b q n m (suc d) (act p a c) deep h =
    let rest : flat_map (preorder (suc d) all) (numbers (n + 1) c) ≡ range_with_len (n + 1) (count c) =
    in_order all b q (n + 1) (m + weights (act_terms a)) (suc d) c (omega (arith, deep)) h.1 in
    let e : n + 1 ≡ n + 1 + 0 = omega arith in
    let f : suc (0 + count c) ≡ suc (count c) = omega arith in
    one_first all d n 0 (count c) _ [] (numbers (n + 1) c) h.0 (no_inner m a) refl (rest ∙ ap (λ k. range_with_len k (count c)) e) ∙ ap (range_with_len n) f
in_order all b q n m zero (choice p e x y c) deep h = absurd (omega (arith, deep))
in_order all b q n m (suc d) (choice p e x y c) deep h =
    let n1 : ℕ = n + 1 in
    let n2 : ℕ = n1 + count x in
    let n3 : ℕ = n2 + count y in
    let m1 : ℕ = m + weight e in
    let m2 : ℕ = m1 + weights (terms x) in
    let m3 : ℕ = m2 + weights (terms y) in
    let xs = stands_stmts all b (Some n) n1 m1 x (stmts b (Some n) n2 m2 y ++ stmts b q n3 m3 c) h.1 in
    let ys = stands_stmts all b (Some n) n2 m2 y (stmts b q n3 m3 c) xs.1 in
    let first : flat_map (preorder d all) (numbers n1 x) ≡ range_with_len n1 (count x) = in_order all b (Some n) n1 m1 d x (omega (arith, deep)) xs.0 in
    let second : flat_map (preorder d all) (numbers n2 y) ≡ range_with_len n2 (count y) = in_order all b (Some n) n2 m2 d y (omega (arith, deep)) ys.0 in
    let third : flat_map (preorder (suc d) all) (numbers n3 c) ≡ range_with_len n3 (count c) = in_order all b q n3 m3 (suc d) c (omega (arith, deep)) ys.1 in
    let inside : flat_map (preorder d all) (numbers n1 x ++ numbers n2 y) ≡ range_with_len n1 (count x + count y) =
    flat_map-append (preorder d all) (numbers n1 x) (numbers n2 y)
    ∙ ap (λ l. l ++ flat_map (preorder d all) (numbers n2 y)) first
    ∙ ap (λ l. range_with_len n1 (count x) ++ l) second
    ∙ range_join n1 (count x) (count y) in
    let start : n3 ≡ n + 1 + (count x + count y) = omega arith in
    let sum : suc (count x + count y + count c) ≡ suc (count x + (count y + count c)) = omega arith in
    one_first all d n (count x + count y) (count c) _ (numbers n1 x ++ numbers n2 y) (numbers n3 c) h.0 refl inside (third ∙ ap (λ k. range_with_len k (count c)) start)
    ∙ ap (range_with_len n) sum
in_order all b q n m zero (loop p e x c) deep h = absurd (omega (arith, deep))
in_order all b q n m (suc d) (loop p e x c) deep h =
    let n1 : ℕ = n + 1 in
    let n2 : ℕ = n1 + count x in
    let m1 : ℕ = m + weight e in
    let m2 : ℕ = m1 + weights (terms x) in
    let xs = stands_stmts all b (Some n) n1 m1 x (stmts b q n2 m2 c) h.1 in
    let first : flat_map (preorder d all) (numbers n1 x) ≡ range_with_len n1 (count x) = in_order all b (Some n) n1 m1 d x (omega (arith, deep)) xs.0 in
    let later : flat_map (preorder (suc d) all) (numbers n2 c) ≡ range_with_len n2 (count c) = in_order all b q n2 m2 (suc d) c (omega (arith, deep)) xs.1 in
    one_first all d n (count x) (count c) _ (numbers n1 x) (numbers n2 c) h.0 refl first later

-- a body's statements, from its first to its end
pub body_in_order : (all : List Stmt) (b : ℕ) (q : Option ℕ) (n m d : ℕ) (c : Code) → nesting c ≤ d → Stands all n (stmts b q n m c)
    → flat_map (preorder d all) (numbers n c) ≡ range_with_len n (n + count c - n)
body_in_order all b q n m d c deep h =
    let e : count c ≡ n + count c - n = omega arith in
    in_order all b q n m d c deep h ∙ ap (range_with_len n) e
