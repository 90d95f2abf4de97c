-- What a table holds, by the core statements of its bodies.
use Rattle.std.proofs.Common.{◌≡◌, refl, ap, ℕ, suc, ◌+◌, arith, List, [], ◌∷◌, ◌++◌, length, Option, Some}
use Rattle.ppd_ast.specs.declared.program.Stmt.{Stmt}
use Rattle.ppd_ast.specs.Term.{Term}
use Rattle.ppd_check_stmts.specs.Code.{Act, set, clear, call, give_back, take, give, send, receive, print, assert, finish, Code, done, act, choice, loop, count}
use Rattle.ppd_check_stmts.specs.Table.{weight, weights, roots, terms, act_terms, kind, numbers, stmts}
use Rattle.ppd_check_stmts.specs.Elements.{listed_by, stmts_elements}
use Rattle.ppd_check_stmts.proofs.Table.Joined.{weights_append}

-- the arguments of a call
abbrev pub args_of : Act → ℕ
args_of (call f args into) = length args
args_of _ = 0

abbrev pub act_load : Act → ℕ
act_load a = 2 + args_of a + weights (act_terms a)

-- the expressions of a row, and its statements with their numbers and arguments
abbrev pub load : Code → ℕ
load done = 0
load (act p a c) = act_load a + load c
load (choice p e a b c) = 2 + weight e + load a + load b + load c
load (loop p e inside c) = 2 + weight e + load inside + load c

pub length_roots : (m : ℕ) (ts : List Term) → length (roots m ts) ≡ length ts
length_roots m [] = refl
length_roots m (t ∷ ts) = ap suc (length_roots (m + weight t) ts)

listed_act : (m : ℕ) (a : Act) → listed_by (kind m a) ≡ args_of a
listed_act m (set t e) = refl
listed_act m (clear base n) = refl
listed_act m (call f args into) = length_roots m args
listed_act m (give_back v) = refl
listed_act m (take k) = refl
listed_act m (give k) = refl
listed_act m (send k e) = refl
listed_act m (receive k c) = refl
listed_act m (print e) = refl
listed_act m (assert e) = refl
listed_act m finish = refl

pub elements_append : (xs ys : List Stmt) → stmts_elements (xs ++ ys) ≡ stmts_elements xs + stmts_elements ys
elements_append [] ys = omega arith
elements_append (s ∷ xs) ys = omega (arith, elements_append xs ys)

-- the statements of a row hold what it has
pub row_holds : (b : ℕ) (q : Option ℕ) (n m : ℕ) (c : Code) → weights (terms c) + stmts_elements (stmts b q n m c) + length (numbers n c) ≡ load c
row_holds b q n m done = refl
row_holds b q n m (act p a c) =
    omega (arith, weights_append (act_terms a) (terms c), listed_act m a, row_holds b q (n + 1) (m + weights (act_terms a)) c)
row_holds b q n m (choice p e x y c) =
    let n1 : ℕ = n + 1 in
    let n2 : ℕ = n1 + count x in
    let m1 : ℕ = m + weight e in
    let m2 : ℕ = m1 + weights (terms x) in
    let xs : List Stmt = stmts b (Some n) n1 m1 x in
    let ys : List Stmt = stmts b (Some n) n2 m2 y in
    let zs : List Stmt = stmts b q (n2 + count y) (m2 + weights (terms y)) c in
    omega (
      arith,
      weights_append (terms x) (terms y ++ terms c),
      weights_append (terms y) (terms c),
      elements_append xs (ys ++ zs),
      elements_append ys zs,
      row_holds b (Some n) n1 m1 x,
      row_holds b (Some n) n2 m2 y,
      row_holds b q (n2 + count y) (m2 + weights (terms y)) c,
    )
row_holds b q n m (loop p e x c) =
    let n1 : ℕ = n + 1 in
    let m1 : ℕ = m + weight e in
    let xs : List Stmt = stmts b (Some n) n1 m1 x in
    let zs : List Stmt = stmts b q (n1 + count x) (m1 + weights (terms x)) c in
    omega (arith, weights_append (terms x) (terms c), elements_append xs zs, row_holds b (Some n) n1 m1 x, row_holds b q (n1 + count x) (m1 + weights (terms x)) c)
