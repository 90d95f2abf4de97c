-- What holds in a valid program, for the crates above.
use Rattle.std.proofs.Common.{◌≡◌, ℕ, zero, suc, ◌+◌, ◌<◌, ◌≤◌, List, [], ◌∷◌, length, get_or, Option, Some, None, refl, subst, arith, IsSomeAnd}
use Rattle.std.specs.Prelude.{slice_get, ⊤, unwrap_or}
use Rattle.std.specs.List.{All}
use Rattle.std.proofs.lemmas.Option.{get_or_from_slice_get}
use Rattle.ppd_ast.specs.declared.program.Var.{Var}
use Rattle.ppd_ast.specs.declared.program.Target.{Target}
use Rattle.ppd_ast.specs.declared.program.Target.TheVariants as T
use Rattle.ppd_ast.specs.declared.program.Kind.{Kind}
use Rattle.ppd_ast.specs.declared.program.Stmt.{Stmt}
use Rattle.ppd_ast.specs.declared.program.Body.{Body}
use Rattle.ppd_ast.specs.declared.program.Program.{Program}
use Rattle.ppd_ast.specs.Table.{EachAt}
use Rattle.ppd_ast.specs.Term.{Term, const, local, local_at, shared, shared_at, neg, not, two, and, or, term}
use Rattle.ppd_ast.specs.Uses.{kind_uses}
use Rattle.ppd_ast.specs.Cells.{after, CoverCells, IsScalarOf, IsArrayOf, NamesWhole, IsWholeTarget}
use Rattle.ppd_ast.specs.Order.{inner}
use Rattle.ppd_ast.specs.Valid.{IsValid, IsValidBody, IsValidStmt, IsValidKind}

-- a number at which something stands is in range
pub slice_get_below : {X : Type 0} (xs : List X) (i : ℕ) (x : X) → slice_get xs i ≡ Some x → i < length xs
slice_get_below [] i x h = cc
slice_get_below (y ∷ ys) zero x h = omega arith
slice_get_below (y ∷ ys) (suc i) x h = let r : i < length ys = slice_get_below ys i x h in omega (arith, r)

-- and something stands at each number in range
pub slice_get_there : {X : Type 0} (xs : List X) (i : ℕ) → i < length xs → (x : X) × (slice_get xs i ≡ Some x)
slice_get_there [] i h = absurd (omega arith)
slice_get_there (y ∷ ys) zero h = (y, refl)
slice_get_there (y ∷ ys) (suc i) h = slice_get_there ys i (omega arith)

pub each_at : {X : Type 0} (P : ℕ → X → Type 0) (xs : List X) (i : ℕ) (x : X) → EachAt P xs → slice_get xs i ≡ Some x → P i x
each_at P xs i x each h = subst (λ y. P i y) (get_or_from_slice_get xs i x x h) (each i x (slice_get_below xs i x h))

-- what a fact about an optional value says: the value is there
pub some_and : {X : Type 0} (P : X → Type 0) (o : Option X) → IsSomeAnd o P → (x : X) × (o ≡ Some x) × P x
some_and P None h = absurd h
some_and P (Some x) h = (x, refl, h)

pub valid_stmt : (p : Program) (k : ℕ) (s : Stmt) → IsValid p → slice_get p.stmts k ≡ Some s → IsValidStmt p k s
valid_stmt p k s v h = each_at (IsValidStmt p) p.stmts k s v.stmts h

pub valid_body : (p : Program) (j : ℕ) (b : Body) → IsValid p → slice_get p.bodies j ≡ Some b → IsValidBody p j b
valid_body p j b v h = each_at (IsValidBody p) p.bodies j b v.bodies h

-- a statement stands in a body that is there, and is valid in it
pub stmt_in_body : (p : Program) (k : ℕ) (s : Stmt) → IsValid p → slice_get p.stmts k ≡ Some s
    → (b : Body) × (slice_get p.bodies s.body ≡ Some b) × IsValidKind p b k s.kind
stmt_in_body p k s v h = some_and (λ b. IsValidKind p b k s.kind) (slice_get p.bodies s.body) (valid_stmt p k s v h).kind

-- the numbers of a statement's lists and of a top list are in range
stands_below : (stmts : List Stmt) (P : Stmt → Type 0) (i : ℕ) → IsSomeAnd (slice_get stmts i) P → i < length stmts
stands_below stmts P i h = let w = some_and P (slice_get stmts i) h in slice_get_below stmts i w.0 w.1

pub inner_below : (p : Program) (k : ℕ) (s : Stmt) → IsValid p → slice_get p.stmts k ≡ Some s → All (λ i. i < length p.stmts) (inner s.kind)
inner_below p k s v h i d b =
    stands_below p.stmts (λ t. (t.parent ≡ Some k) × (t.body ≡ s.body)) (get_or (inner s.kind) i d) ((valid_stmt p k s v h).inside i d b)

pub top_below : (p : Program) (j : ℕ) (b : Body) → IsValid p → slice_get p.bodies j ≡ Some b → All (λ i. i < length p.stmts) b.top
top_below p j b v h i d l = stands_below p.stmts (λ t. (t.parent ≡ None) × (t.body ≡ j)) (get_or b.top i d) ((valid_body p j b v h).top i d l)

-- a scalar's cell and an array's cells are among those that the variables cover
pub scalar_below : (vs : List Var) (n c : ℕ) → CoverCells vs n → IsScalarOf vs c → c < n
scalar_below vs n c covers h =
    let v = h.1 in
    let within = covers.within h.0 v h.2 in
    let is : get_or vs h.0 v ≡ v = h.3 in
    let end : v.base + 1 ≤ n = subst (λ (o : Option ℕ). v.base + unwrap_or o 1 ≤ n) h.4.1 (subst (λ (w : Var). after w ≤ n) is within) in
    omega (arith, end, h.4.0)

pub array_below : (vs : List Var) (n base len : ℕ) → CoverCells vs n → IsArrayOf vs base len → base + len ≤ n
array_below vs n base len covers h =
    let v = h.1 in
    let within = covers.within h.0 v h.2 in
    let is : get_or vs h.0 v ≡ v = h.3 in
    let end : v.base + len ≤ n = subst (λ (o : Option ℕ). v.base + unwrap_or o 1 ≤ n) h.4.1 (subst (λ (w : Var). after w ≤ n) is within) in
    omega (arith, end, h.4.0)

-- the cells that an expression names are below these numbers
abbrev pub AreBelow : (shareds locals : ℕ) → Term → Type 0
AreBelow m n (const v) = ⊤
AreBelow m n (local c) = c < n
AreBelow m n (local_at base len i) = (base + len ≤ n) × AreBelow m n i
AreBelow m n (shared c) = c < m
AreBelow m n (shared_at base len i) = (base + len ≤ m) × AreBelow m n i
AreBelow m n (neg a) = AreBelow m n a
AreBelow m n (not a) = AreBelow m n a
AreBelow m n (two op a b) = AreBelow m n a × AreBelow m n b
AreBelow m n (and a b) = AreBelow m n a × AreBelow m n b
AreBelow m n (or a b) = AreBelow m n a × AreBelow m n b

module _ (shareds locals : List Var) (m n : ℕ) (over : CoverCells shareds m) (under : CoverCells locals n) where
  pub names_below : (t : Term) → NamesWhole shareds locals t → AreBelow m n t
  names_below (const v) h = h
  names_below (local c) h = scalar_below locals n c under h
  names_below (local_at base len i) h = (array_below locals n base len under h.0, names_below i h.1)
  names_below (shared c) h = scalar_below shareds m c over h
  names_below (shared_at base len i) h = (array_below shareds m base len over h.0, names_below i h.1)
  names_below (neg a) h = names_below a h
  names_below (not a) h = names_below a h
  names_below (two op a b) h = (names_below a h.0, names_below b h.1)
  names_below (and a b) h = (names_below a h.0, names_below b h.1)
  names_below (or a b) h = (names_below a h.0, names_below b h.1)

-- the same of a target
abbrev pub IsBelow : (shareds locals : ℕ) → Target → Type 0
IsBelow m n (T.Local c) = c < n
IsBelow m n (T.LocalAt base len i) = base + len ≤ n
IsBelow m n (T.Shared c) = c < m
IsBelow m n (T.SharedAt base len i) = base + len ≤ m

pub target_below : (shareds locals : List Var) (m n : ℕ) → CoverCells shareds m → CoverCells locals n → (t : Target) → IsWholeTarget shareds locals t → IsBelow m n t
target_below shareds locals m n over under (T.Local c) h = scalar_below locals n c under h
target_below shareds locals m n over under (T.LocalAt base len i) h = array_below locals n base len under h
target_below shareds locals m n over under (T.Shared c) h = scalar_below shareds m c over h
target_below shareds locals m n over under (T.SharedAt base len i) h = array_below shareds m base len over h

-- each expression that a statement of body b uses names cells of b's frame and shared cells
pub uses_below : (p : Program) (j k : ℕ) (b : Body) (kind : Kind) → IsValid p → slice_get p.bodies j ≡ Some b → IsValidKind p b k kind
    → All (λ e. AreBelow (length p.starts) b.cells (term p.exprs e)) (kind_uses kind)
uses_below p j k b kind v at valid i d l =
    names_below p.shared b.locals (length p.starts) b.cells v.cells (valid_body p j b v at).cells (term p.exprs (get_or (kind_uses kind) i d)) (valid.uses i d l).names
