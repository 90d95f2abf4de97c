-- The numbers of statements and expressions: how many stand before.
use Rattle.std.specs.Prelude.{ℕ, suc, ◌+◌, List, [], ◌∷◌, ◌++◌, Option, Some, None, option_map, option_to_list}
use Rattle.ppd_ast.specs.declared.program.Expr.{Expr}
use Rattle.ppd_ast.specs.declared.program.Expr.TheVariants.{Const, Local, LocalAt, Shared, SharedAt, Neg, Not, Two, And, Or}
use Rattle.ppd_ast.specs.declared.program.Target.{Target}
use Rattle.ppd_ast.specs.declared.program.Target.TheVariants as G
use Rattle.ppd_ast.specs.declared.program.Kind.{Kind}
use Rattle.ppd_ast.specs.declared.program.Kind.TheVariants as K
use Rattle.ppd_ast.specs.declared.program.Stmt.{Stmt}
use Rattle.ppd_ast.specs.Term.{Term, const, local, local_at, shared, shared_at, neg, not, two, and, or}
use Rattle.ppd_check_stmts.specs.Code as C
use Rattle.ppd_check_stmts.specs.Code.{Spot, Act, set, clear, call, give_back, take, give, send, receive, print, assert, finish, Code, done, act, choice, loop, count}

-- how many expressions a term has below itself, and with itself
abbrev pub below : Term → ℕ
below (const v) = 0
below (local c) = 0
below (local_at base n i) = suc (below i)
below (shared c) = 0
below (shared_at base n i) = suc (below i)
below (neg a) = suc (below a)
below (not a) = suc (below a)
below (two op a b) = suc (below a) + suc (below b)
below (and a b) = suc (below a) + suc (below b)
below (or a b) = suc (below a) + suc (below b)

abbrev pub weight : Term → ℕ
weight t = suc (below t)

-- a term's number, where its first expression has number m: it stands after those below it
abbrev pub root : ℕ → Term → ℕ
root m t = m + below t

-- the expressions of a term from number m on
abbrev pub flat : ℕ → Term → List Expr
flat m (const v) = Const v ∷ []
flat m (local c) = Local c ∷ []
flat m (local_at base n i) = flat m i ++ LocalAt base n (root m i) ∷ []
flat m (shared c) = Shared c ∷ []
flat m (shared_at base n i) = flat m i ++ SharedAt base n (root m i) ∷ []
flat m (neg a) = flat m a ++ Neg (root m a) ∷ []
flat m (not a) = flat m a ++ Not (root m a) ∷ []
flat m (two op a b) = flat m a ++ (flat (m + weight a) b ++ Two op (root m a) (root (m + weight a) b) ∷ [])
flat m (and a b) = flat m a ++ (flat (m + weight a) b ++ And (root m a) (root (m + weight a) b) ∷ [])
flat m (or a b) = flat m a ++ (flat (m + weight a) b ++ Or (root m a) (root (m + weight a) b) ∷ [])

-- the numbers and the expressions of terms one after another
abbrev pub roots : ℕ → List Term → List ℕ
roots m [] = []
roots m (t ∷ ts) = root m t ∷ roots (m + weight t) ts

abbrev pub flats : ℕ → List Term → List Expr
flats m [] = []
flats m (t ∷ ts) = flat m t ++ flats (m + weight t) ts

abbrev pub weights : List Term → ℕ
weights [] = 0
weights (t ∷ ts) = weight t + weights ts

-- the terms of a statement, an index before the value that is stored
abbrev pub spot_terms : Spot → List Term
spot_terms (C.local c) = []
spot_terms (C.local_at base n i) = i ∷ []
spot_terms (C.shared c) = []
spot_terms (C.shared_at base n i) = i ∷ []

abbrev pub act_terms : Act → List Term
act_terms (set m e) = spot_terms m ++ e ∷ []
act_terms (clear base n) = []
act_terms (call f args into) = args
act_terms (give_back v) = option_to_list v
act_terms (take k) = []
act_terms (give k) = []
act_terms (send k e) = e ∷ []
act_terms (receive k c) = []
act_terms (print e) = e ∷ []
act_terms (assert e) = e ∷ []
act_terms finish = []

-- the terms of a row, statement after statement
abbrev pub terms : Code → List Term
terms done = []
terms (act p a c) = act_terms a ++ terms c
terms (choice p e a b c) = e ∷ (terms a ++ (terms b ++ terms c))
terms (loop p e inside c) = e ∷ (terms inside ++ terms c)

abbrev pub target : ℕ → Spot → Target
target m (C.local c) = G.Local c
target m (C.local_at base n i) = G.LocalAt base n (root m i)
target m (C.shared c) = G.Shared c
target m (C.shared_at base n i) = G.SharedAt base n (root m i)

-- the kind of a statement whose first expression has number m
abbrev pub kind : ℕ → Act → Kind
kind m (set t e) = K.Set (target m t) (root (m + weights (spot_terms t)) e)
kind m (clear base n) = K.Zero base n
kind m (call f args into) = K.Call f (roots m args) into
kind m (give_back v) = K.Return (option_map (root m) v)
kind m (take k) = K.P k
kind m (give k) = K.V k
kind m (send k e) = K.Send k (root m e)
kind m (receive k c) = K.Recv k c
kind m (print e) = K.Print (root m e)
kind m (assert e) = K.Assert (root m e)
kind m finish = K.End

-- the numbers of the statements of a row, of which the first is n
abbrev pub numbers : ℕ → Code → List ℕ
numbers n done = []
numbers n (act p a c) = n ∷ numbers (n + 1) c
numbers n (choice p e a b c) = n ∷ numbers (n + 1 + count a + count b) c
numbers n (loop p e inside c) = n ∷ numbers (n + 1 + count inside) c

-- Pre-order, from statement n and expression m on. The statements of a row belong to body b, and stand directly in
-- `parent`.
abbrev pub stmts : (b : ℕ) → (parent : Option ℕ) → (n m : ℕ) → Code → List Stmt
stmts b parent n m done = []
stmts b parent n m (act p a c) =
    record { place = p; body = b; parent = parent; kind = kind m a }
    ∷ stmts b parent (n + 1) (m + weights (act_terms a)) c
stmts b parent n m (choice p e x y c) =
    let n1 : ℕ = n + 1 in
    let n2 : ℕ = n1 + count x in
    let m1 : ℕ = m + weight e in
    let m2 : ℕ = m1 + weights (terms x) in
    record { place = p; body = b; parent = parent; kind = K.If (root m e) (numbers n1 x) (numbers n2 y) }
    ∷ (stmts b (Some n) n1 m1 x
    ++ (stmts b (Some n) n2 m2 y
    ++ stmts b parent (n2 + count y) (m2 + weights (terms y)) c))
stmts b parent n m (loop p e inside c) =
    let n1 : ℕ = n + 1 in
    let m1 : ℕ = m + weight e in
    record { place = p; body = b; parent = parent; kind = K.While (root m e) (numbers n1 inside) }
    ∷ (stmts b (Some n) n1 m1 inside
    ++ stmts b parent (n1 + count inside) (m1 + weights (terms inside)) c)
