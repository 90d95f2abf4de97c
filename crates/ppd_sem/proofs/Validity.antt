-- The processes of a valid program can run.
use Rattle.std.proofs.Common.{◌≡◌, ℕ, zero, suc, ◌+◌, ◌-◌, ◌<◌, ◌≤◌, ◌^◌, Bool, true, false, nat_eq, nat_le, List, [], ◌∷◌, ◌++◌, length, get_or, Option, Some, None, refl, ap, sym, ◌∙◌, subst, arith}
use Rattle.std.specs.Prelude.{cond, IsSome, IsSomeAnd, IsTrue, slice_get, unwrap_or}
use Rattle.std.specs.List.{All, count_by, flat_map, range_with_len}
use Rattle.std.proofs.lemmas.Bool.Decides.{nat_tests}
use Rattle.std.proofs.lemmas.List.Sums.{sum_by-append}
use Rattle.std.proofs.lemmas.Option.{slice_get-get_or, slice_get_within}
use Rattle.ppd_ast.specs.Cells.{AreParams, CoverCells, NamesWhole, WritesWhole, after}
use Rattle.ppd_ast.specs.Order.{StandIn, inner, preorder}
use Rattle.ppd_ast.proofs.Vocabulary.{inner_at}
use Rattle.ppd_ast.specs.Term.{Term, const, local, local_at, shared, shared_at, neg, not, two, and, or, term}
use Rattle.ppd_ast.specs.Uses.{kind_uses}
use Rattle.ppd_ast.specs.ValidPlan.{IsValidPlan}
use Rattle.ppd_ast.specs.declared.plan.Plan.{Plan}
use Rattle.ppd_ast.proofs.PlanNumbers.{few_plan_blocks, few_plan_units}
use Rattle.ppd_ast.specs.Valid.{CallsRightly, EndsBody, IsEnding, IsValid, IsValidBody, IsValidKind, IsValidStmt, IsValidUse, last_of}
use Rattle.ppd_ast.specs.declared.program.Body.{Body}
use Rattle.ppd_ast.specs.declared.program.Kind.{Kind}
use Rattle.ppd_ast.specs.declared.program.Kind.TheVariants as kind
use Rattle.ppd_ast.specs.declared.program.Program.{Program}
use Rattle.ppd_ast.specs.declared.program.Stmt.{Stmt}
use Rattle.ppd_ast.specs.declared.program.Target.TheVariants as target
use Rattle.ppd_ast.specs.declared.program.Var.{Var}
use Rattle.ppd_ast.specs.Lookups.{kind_of, body_numbered, no_body}
use Rattle.ppd_ast.proofs.Vocabulary.{kind_of_stmt}
use Rattle.ppd_ast.proofs.ValidLaws.{valid_body, some_and, array_below, scalar_below}
use Rattle.ppd_ast.proofs.BareValid.{some_and_is}
use Rattle.ppd_ast.specs.declared.limits.TheConstants.{MOST_SHARED_CELLS, MOST_FUNCTIONS, MOST_LOCAL_CELLS, MOST_NESTING, MOST_PROCESSES, MOST_STATEMENTS}
use Rattle.ppd_sem.specs.Runs.{AreOfFunction, AreUses, IsCallable, IsInner, IsNumbered, RunsOver, IsRunnable, IsRunnableBody, IsRunnableStmt, IsUse, LeadsOn, returns, size_of, stmt_size}
use Rattle.ppd_sem.specs.Within.{IsWithin}
use Rattle.ppd_sem.proofs.Kept.{There, there_at}

-- ---- cells

-- an expression that names whole variables names cells of the frame
names_within : (shareds locals : List Var) (m n : ℕ) (t : Term) → m < 2 ^ 16 → CoverCells shareds m → CoverCells locals n → NamesWhole shareds locals t → IsWithin n t
names_within ss ls m n (const v) lt hs hl h = tt
names_within ss ls m n (local c) lt hs hl h = scalar_below ls n c hl h
names_within ss ls m n (local_at base len i) lt hs hl h = (array_below ls n base len hl h.0, names_within ss ls m n i lt hs hl h.1)
names_within ss ls m n (shared c) lt hs hl h = tt
names_within ss ls m n (shared_at base len i) lt hs hl h =
    let most : base + len ≤ m = array_below ss m base len hs h.0 in
    (omega arith, names_within ss ls m n i lt hs hl h.1)
names_within ss ls m n (neg a) lt hs hl h = names_within ss ls m n a lt hs hl h
names_within ss ls m n (not a) lt hs hl h = names_within ss ls m n a lt hs hl h
names_within ss ls m n (two op a b) lt hs hl h = (names_within ss ls m n a lt hs hl h.0, names_within ss ls m n b lt hs hl h.1)
names_within ss ls m n (and a b) lt hs hl h = (names_within ss ls m n a lt hs hl h.0, names_within ss ls m n b lt hs hl h.1)
names_within ss ls m n (or a b) lt hs hl h = (names_within ss ls m n a lt hs hl h.0, names_within ss ls m n b lt hs hl h.1)

-- ---- lists

pub get_at : {X : Type 0} (Q : X → Type 0) (xs : List X) (m : ℕ) (x : X) → All Q xs → slice_get xs m ≡ Some x → Q x
get_at Q [] m x h e = absurd cc
get_at Q (y ∷ ys) zero x h e = let is : y ≡ x = cc in subst Q is (h 0 y (omega arith))
get_at Q (y ∷ ys) (suc m) x h e = get_at Q ys m x (λ k d lt. h (suc k) d (omega arith)) e

pub each_of : {X : Type 0} (Q R : X → Type 0) (xs : List X) → ((x : X) → Q x → R x) → All Q xs → All R xs
each_of Q R xs f h = λ k d lt. f (get_or xs k d) (h k d lt)

pub front : {X : Type 0} (Q : X → Type 0) (xs ys : List X) → All Q (xs ++ ys) → All Q xs
front Q [] ys h k d lt = absurd (omega arith)
front Q (x ∷ xs) ys h zero d lt = h 0 d (omega arith)
front Q (x ∷ xs) ys h (suc k) d lt = front Q xs ys (λ i e b. h (suc i) e (omega arith)) k d (omega arith)

pub tail : {X : Type 0} (Q : X → Type 0) (xs ys : List X) → All Q (xs ++ ys) → All Q ys
tail Q [] ys h = h
tail Q (x ∷ xs) ys h = tail Q xs ys (λ i e b. h (suc i) e (omega arith))

abbrev many : ℕ → List ℕ → ℕ
many x xs = count_by (nat_eq x) xs

many-cons : (x y : ℕ) (ys : List ℕ) → many x (y ∷ ys) ≡ cond (nat_eq x y) 1 0 + many x ys
many-cons x y ys =
    let e : many x (y ∷ ys) ≡ (0 + cond (nat_eq x y) 1 0) + many x ys = sum_by-append (λ z. cond (nat_eq x z) 1 0) (y ∷ []) ys in
    omega arith

none_below : (a n x : ℕ) → x < a → many x (range_with_len a n) ≡ 0
none_below a zero x h = refl
none_below a (suc n) x h =
    let rest : many x (range_with_len (a + 1) n) ≡ 0 = none_below (a + 1) n x (omega arith) in
    let other : nat_eq x a ≡ false = grind (arith, nat_tests) in
    cc

at_most_once : (a n x : ℕ) → many x (range_with_len a n) ≤ 1
at_most_once a zero x = omega arith
at_most_once a (suc n) x = subst (λ (m : ℕ). m ≤ 1) (sym (many-cons x a (range_with_len (a + 1) n))) (by (nat_eq x a) refl (at_most_once (a + 1) n x))
  where
    by : (b : Bool) → nat_eq x a ≡ b → many x (range_with_len (a + 1) n) ≤ 1 → cond b 1 0 + many x (range_with_len (a + 1) n) ≤ 1
    by true e h =
        let same : x ≡ a = grind (arith, nat_tests) in
        let none : many x (range_with_len (a + 1) n) ≡ 0 = none_below (a + 1) n x (omega arith) in
        omega arith
    by false e h = omega arith

-- each number of the list stands in what the numbers begin
counted : (f rest : ℕ → List ℕ) → ((i : ℕ) → f i ≡ i ∷ rest i) → (x : ℕ) (is : List ℕ) → many x is ≤ many x (flat_map f is)
counted f rest heads x [] = omega arith
counted f rest heads x (i ∷ is) =
    let e : many x (flat_map f (i ∷ is)) ≡ many x (i ∷ (rest i ++ flat_map f is)) = ap (λ l. many x (l ++ flat_map f is)) (heads i) in
    let both : many x (rest i ++ flat_map f is) ≡ many x (rest i) + many x (flat_map f is) = sum_by-append (λ y. cond (nat_eq x y) 1 0) (rest i) (flat_map f is) in
    let ih : many x is ≤ many x (flat_map f is) = counted f rest heads x is in
    let one : many x (i ∷ is) ≡ cond (nat_eq x i) 1 0 + many x is = many-cons x i is in
    let two : many x (i ∷ (rest i ++ flat_map f is)) ≡ cond (nat_eq x i) 1 0 + many x (rest i ++ flat_map f is) = many-cons x i (rest i ++ flat_map f is) in
    omega arith

in_preorder : (stmts : List Stmt) (x : ℕ) (is : List ℕ) → many x is ≤ many x (flat_map (preorder MOST_NESTING stmts) is)
unfolding preorder
in_preorder stmts x is = counted (preorder MOST_NESTING stmts) (λ i. flat_map (preorder (MOST_NESTING - 1) stmts) (inner_at stmts i)) (λ i. refl) x is

one_if : (x y : ℕ) → nat_eq x y ≡ true → cond {A = ℕ} (nat_eq x y) 1 0 ≡ 1
one_if x y e = ap (λ (b : Bool). cond {A = ℕ} b 1 0) e

found : (xs : List ℕ) (m x : ℕ) → slice_get xs m ≡ Some x → 1 ≤ many x xs
found [] m x e = absurd cc
found (y ∷ ys) zero x e =
    let is : y ≡ x = cc in
    let yes : nat_eq x y ≡ true = grind (arith, nat_tests) in
    let one : cond {A = ℕ} (nat_eq x y) 1 0 ≡ 1 = one_if x y yes in
    let all : many x (y ∷ ys) ≡ cond (nat_eq x y) 1 0 + many x ys = many-cons x y ys in
    omega arith
found (y ∷ ys) (suc m) x e =
    let ih : 1 ≤ many x ys = found ys m x e in
    let all : many x (y ∷ ys) ≡ cond (nat_eq x y) 1 0 + many x ys = many-cons x y ys in
    omega arith

pub last_cons : (s t : ℕ) (ss : List ℕ) → last_of (s ∷ t ∷ ss) ≡ last_of (t ∷ ss)
last_cons s t ss =
    let e : length (s ∷ t ∷ ss) - 1 ≡ suc (length (t ∷ ss) - 1) = omega arith in
    ap (λ m. slice_get (s ∷ t ∷ ss) m) e

-- ---- statements

over_of : (p : Program) (parent : Option ℕ) (body n i : ℕ) → size_of p body ≡ n → IsSomeAnd (slice_get p.stmts i) (λ s. (s.parent ≡ parent) × (s.body ≡ body)) → RunsOver p n i
over_of p parent body n i size h =
    let at = some_and (λ (s : Stmt). (s.parent ≡ parent) × (s.body ≡ body)) (slice_get p.stmts i) h in
    record {
      there = slice_get_within p.stmts i at.0 at.1;
      size = ap (stmt_size p) at.1 ∙ ap (size_of p) at.2.1 ∙ size;
    }

ends : (b : Body) (i : ℕ) (k : Kind) → EndsBody b i k → returns k ≡ true → (b.process ≡ false) × (last_of b.top ≡ Some i)
ends b i (kind.Return v) h e = (h.0, h.2)
ends b i k h e = absurd cc

-- a statement that returns is the last of the top list of its body, which is a function
record Returns (p : Program) (s : Stmt) (i : ℕ) (b : Body) : Type 0 where
  pub is : slice_get p.bodies s.body ≡ Some b
  pub valid : IsValidBody p s.body b
  pub process : b.process ≡ false
  pub last : last_of b.top ≡ Some i

returning : (p : Program) (i : ℕ) (s : Stmt) → IsValid p → slice_get p.stmts i ≡ Some s → returns (kind_of p i) ≡ true → (b : Body) × Returns p s i b
returning p i s v e r =
    let lt : i < length p.stmts = slice_get_within p.stmts i s e in
    let stmt : There (IsValidStmt p) p.stmts i = there_at (IsValidStmt p) p.stmts i v.stmts lt in
    let same : stmt.0 ≡ s = cc (stmt.1) in
    let valid : IsValidStmt p i s = subst (IsValidStmt p i) same stmt.2 in
    let kind : kind_of p i ≡ s.kind = ap kind_of_stmt e in
    let rs : returns s.kind ≡ true = sym (ap returns kind) ∙ r in
    let at = some_and (λ (b : Body). IsValidKind p b i s.kind) (slice_get p.bodies s.body) valid.kind in
    let end = ends at.0 i s.kind at.2.ending rs in
    let body : There (IsValidBody p) p.bodies s.body = there_at (IsValidBody p) p.bodies s.body v.bodies (slice_get_within p.bodies s.body at.0 at.1) in
    let one : body.0 ≡ at.0 = cc (body.1, at.1) in
    (at.0, record { is = at.1; valid = subst (IsValidBody p s.body) one body.2; process = end.0; last = end.1 })

-- it stands in a top list
parentless : (p : Program) (i : ℕ) (s : Stmt) → IsValid p → slice_get p.stmts i ≡ Some s → returns (kind_of p i) ≡ true → s.parent ≡ None
parentless p i s v e r =
    let found = returning p i s v e r in
    let stands = get_at (λ (j : ℕ). IsSomeAnd (slice_get p.stmts j) (λ x. (x.parent ≡ None) × (x.body ≡ s.body))) found.0.top (length found.0.top - 1) i found.1.valid.top found.1.last in
    let at = some_and (λ (x : Stmt). (x.parent ≡ None) × (x.body ≡ s.body)) (slice_get p.stmts i) stands in
    let same : at.0 ≡ s = cc (at.1) in
    subst (λ (x : Stmt). x.parent ≡ None) same at.2.0

inner_of : (p : Program) (k body n i : ℕ) → IsValid p → size_of p body ≡ n → IsSomeAnd (slice_get p.stmts i) (λ s. (s.parent ≡ Some k) × (s.body ≡ body)) → IsInner p n i
inner_of p k body n i v size h =
    let at = some_and (λ (s : Stmt). (s.parent ≡ Some k) × (s.body ≡ body)) (slice_get p.stmts i) h in
    record { over = over_of p (Some k) body n i size h; stays = not_so (returns (kind_of p i)) refl at.0 at.1 at.2.0 }
  where
    not_so : (b : Bool) → returns (kind_of p i) ≡ b → (s : Stmt) → slice_get p.stmts i ≡ Some s → s.parent ≡ Some k → b ≡ false
    not_so false r s e q = refl
    not_so true r s e q = let none : s.parent ≡ None = parentless p i s v e r in absurd cc

process_of : (p : Program) (body n i : ℕ) (b : Body) → IsValid p → size_of p body ≡ n → slice_get p.bodies body ≡ Some b → b.process ≡ true → IsSomeAnd (slice_get p.stmts i) (λ s. (s.parent ≡ None) × (s.body ≡ body)) → IsInner p n i
process_of p body n i b v size g pr h =
    let at = some_and (λ (s : Stmt). (s.parent ≡ None) × (s.body ≡ body)) (slice_get p.stmts i) h in
    record { over = over_of p None body n i size h; stays = not_so (returns (kind_of p i)) refl at.0 at.1 at.2.1 }
  where
    not_so : (t : Bool) → returns (kind_of p i) ≡ t → (s : Stmt) → slice_get p.stmts i ≡ Some s → s.body ≡ body → t ≡ false
    not_so false r s e q = refl
    not_so true r s e q =
        let found = returning p i s v e r in
        let there : slice_get p.bodies body ≡ Some found.0 = ap (λ j. slice_get p.bodies j) (sym q) ∙ found.1.is in
        let one : found.0 ≡ b = cc in
        let no : found.0.process ≡ false = found.1.process in
        let yes : found.0.process ≡ true = ap (λ (x : Body). x.process) one ∙ pr in
        absurd cc

-- ---- a function's statements

of_function : (p : Program) (n : ℕ) (xs : List ℕ) → All (RunsOver p n) xs → All (λ i. returns (kind_of p i) ≡ true → last_of xs ≡ Some i) xs → ((x : ℕ) → many x xs ≤ 1) → IsSomeAnd (last_of xs) (λ i. returns (kind_of p i) ≡ true) → AreOfFunction p n xs
of_function p n [] over rets once last = absurd last
of_function p n (s ∷ []) over rets once last = (over 0 s (omega arith), last)
of_function p n (s ∷ t ∷ ss) over rets once last =
    let later : All (RunsOver p n) (t ∷ ss) = λ k d b. over (suc k) d (omega arith) in
    let fewer : (x : ℕ) → many x (t ∷ ss) ≤ 1 = λ x. fewer_of x (once x) in
    let ends : IsSomeAnd (last_of (t ∷ ss)) (λ i. returns (kind_of p i) ≡ true) = subst (λ (o : Option ℕ). IsSomeAnd o (λ i. returns (kind_of p i) ≡ true)) (last_cons s t ss) last in
    let others : All (λ i. returns (kind_of p i) ≡ true → last_of (t ∷ ss) ≡ Some i) (t ∷ ss) = λ k d b r. sym (last_cons s t ss) ∙ rets (suc k) d (omega arith) r in
    (record { over = over 0 s (omega arith); stays = not_so (returns (kind_of p s)) refl }, of_function p n (t ∷ ss) later others fewer ends)
  where
    fewer_of : (x : ℕ) → many x (s ∷ t ∷ ss) ≤ 1 → many x (t ∷ ss) ≤ 1
    fewer_of x h = let all : many x (s ∷ t ∷ ss) ≡ cond (nat_eq x s) 1 0 + many x (t ∷ ss) = many-cons x s (t ∷ ss) in omega arith

    not_so : (b : Bool) → returns (kind_of p s) ≡ b → b ≡ false
    not_so false r = refl
    not_so true r =
        let is : last_of (t ∷ ss) ≡ Some s = sym (last_cons s t ss) ∙ rets 0 s (omega arith) r in
        let again : 1 ≤ many s (t ∷ ss) = found (t ∷ ss) (length (t ∷ ss) - 1) s is in
        let most : many s (s ∷ t ∷ ss) ≤ 1 = once s in
        let here : nat_eq s s ≡ true = grind (arith, nat_tests) in
        let one : cond {A = ℕ} (nat_eq s s) 1 0 ≡ 1 = one_if s s here in
        let all : many s (s ∷ t ∷ ss) ≡ cond (nat_eq s s) 1 0 + many s (t ∷ ss) = many-cons s s (t ∷ ss) in
        absurd (omega arith)

ending_returns : (b : Body) (i : ℕ) (k : Kind) → b.process ≡ false → IsEnding k → EndsBody b i k → returns k ≡ true
ending_returns b i (kind.Return v) e h g = refl
ending_returns b i kind.End e h g = let no : b.process ≡ true = g.0 in absurd cc
ending_returns b i (kind.Set t e') e h g = absurd h
ending_returns b i (kind.Zero base len) e h g = absurd h
ending_returns b i (kind.If e' first second) e h g = absurd h
ending_returns b i (kind.While e' body) e h g = absurd h
ending_returns b i (kind.Call f args into) e h g = absurd h
ending_returns b i (kind.P s) e h g = absurd h
ending_returns b i (kind.V s) e h g = absurd h
ending_returns b i (kind.Send c e') e h g = absurd h
ending_returns b i (kind.Recv c into) e h g = absurd h
ending_returns b i (kind.Print e') e h g = absurd h
ending_returns b i (kind.Assert e') e h g = absurd h

-- body j, a function, as its statements stand in it
pub function_top : (p : Program) (j : ℕ) (b : Body) → IsValid p → slice_get p.bodies j ≡ Some b → b.process ≡ false → IsValidBody p j b → AreOfFunction p b.cells b.top
function_top p j b v e pr h = of_function p b.cells b.top over rets once last
  where
    size : size_of p j ≡ b.cells
    size = ap (λ o. (unwrap_or o no_body).cells) e

    over : All (RunsOver p b.cells) b.top
    over = each_of (λ i. IsSomeAnd (slice_get p.stmts i) (λ s. (s.parent ≡ None) × (s.body ≡ j))) (RunsOver p b.cells) b.top (λ i g. over_of p None j b.cells i size g) h.top

    ret : (i : ℕ) → IsSomeAnd (slice_get p.stmts i) (λ s. (s.parent ≡ None) × (s.body ≡ j)) → returns (kind_of p i) ≡ true → last_of b.top ≡ Some i
    ret i g r =
        let at = some_and (λ (s : Stmt). (s.parent ≡ None) × (s.body ≡ j)) (slice_get p.stmts i) g in
        let found = returning p i at.0 v at.1 r in
        let there : slice_get p.bodies j ≡ Some found.0 = ap (λ m. slice_get p.bodies m) (sym at.2.1) ∙ found.1.is in
        let one : found.0 ≡ b = cc in
        subst (λ (x : Body). last_of x.top ≡ Some i) one found.1.last

    rets : All (λ i. returns (kind_of p i) ≡ true → last_of b.top ≡ Some i) b.top
    rets = each_of (λ i. IsSomeAnd (slice_get p.stmts i) (λ s. (s.parent ≡ None) × (s.body ≡ j))) (λ i. returns (kind_of p i) ≡ true → last_of b.top ≡ Some i) b.top ret h.top

    once : (x : ℕ) → many x b.top ≤ 1
    once x =
        let few : many x b.top ≤ many x (flat_map (preorder MOST_NESTING p.stmts) b.top) = in_preorder p.stmts x b.top in
        let most : many x (range_with_len b.first (b.end - b.first)) ≤ 1 = at_most_once b.first (b.end - b.first) x in
        let same : many x (flat_map (preorder MOST_NESTING p.stmts) b.top) ≡ many x (range_with_len b.first (b.end - b.first)) = ap (many x) h.order in
        omega arith

    last : IsSomeAnd (last_of b.top) (λ i. returns (kind_of p i) ≡ true)
    last =
        let at = some_and (λ i. IsSomeAnd (slice_get p.stmts i) (λ s. IsEnding s.kind)) (last_of b.top) h.ending in
        let stmt = some_and (λ (s : Stmt). IsEnding s.kind) (slice_get p.stmts at.0) at.2 in
        let stands = get_at (λ (i : ℕ). IsSomeAnd (slice_get p.stmts i) (λ s. (s.parent ≡ None) × (s.body ≡ j))) b.top (length b.top - 1) at.0 h.top at.1 in
        some_and_is (λ i. returns (kind_of p i) ≡ true) (last_of b.top) at.0 at.1 (last_is at.0 stmt.0 stmt.1 stmt.2 stands)
      where
        last_is : (i : ℕ) (s : Stmt) → slice_get p.stmts i ≡ Some s → IsEnding s.kind → IsSomeAnd (slice_get p.stmts i) (λ s. (s.parent ≡ None) × (s.body ≡ j)) → returns (kind_of p i) ≡ true
        last_is i s g en st =
            let at = some_and (λ (x : Stmt). (x.parent ≡ None) × (x.body ≡ j)) (slice_get p.stmts i) st in
            let same : at.0 ≡ s = cc (at.1) in
            let body : s.body ≡ j = subst (λ (x : Stmt). x.body ≡ j) same at.2.1 in
            let stmt : There (IsValidStmt p) p.stmts i = there_at (IsValidStmt p) p.stmts i v.stmts (slice_get_within p.stmts i s g) in
            let one : stmt.0 ≡ s = cc (stmt.1) in
            let valid : IsValidStmt p i s = subst (IsValidStmt p i) one stmt.2 in
            let kinds = some_and (λ (x : Body). IsValidKind p x i s.kind) (slice_get p.bodies s.body) valid.kind in
            let there : slice_get p.bodies j ≡ Some kinds.0 = ap (λ m. slice_get p.bodies m) (sym body) ∙ kinds.1 in
            let mine : kinds.0 ≡ b = cc in
            let end : EndsBody b i s.kind = subst (λ (x : Body). EndsBody x i s.kind) mine kinds.2.ending in
            ap (λ o. returns (kind_of_stmt o)) g ∙ ending_returns b i s.kind pr en end

-- ---- statements and bodies

use_of : (p : Program) (b : Body) (e : ℕ) → length p.starts < 2 ^ 16 → CoverCells p.shared (length p.starts) → CoverCells b.locals b.cells → IsValidUse p b e → IsUse p.exprs b.cells e
use_of p b e lt ss ls h = record { there = h.there; within = names_within p.shared b.locals (length p.starts) b.cells (term p.exprs e) lt ss ls h.names }

uses_of : (p : Program) (b : Body) (k : Kind) → length p.starts < 2 ^ 16 → b.cells < 2 ^ 16 → CoverCells p.shared (length p.starts) → CoverCells b.locals b.cells → All (IsValidUse p b) (kind_uses k) → WritesWhole p.shared b.locals k → AreUses p.exprs b.cells k
uses_of p b (kind.Set (target.Local c) e) lt small ss ls u w = (tt, use_of p b e lt ss ls (u 0 e (omega arith)))
uses_of p b (kind.Set (target.LocalAt base len i) e) lt small ss ls u w =
    let most : base + len ≤ b.cells = array_below b.locals b.cells base len ls w in
    ((use_of p b i lt ss ls (u 0 e (omega arith)), omega arith), use_of p b e lt ss ls (u 1 e (omega arith)))
uses_of p b (kind.Set (target.Shared c) e) lt small ss ls u w = (tt, use_of p b e lt ss ls (u 0 e (omega arith)))
uses_of p b (kind.Set (target.SharedAt base len i) e) lt small ss ls u w =
    let most : base + len ≤ length p.starts = array_below p.shared (length p.starts) base len ss w in
    ((use_of p b i lt ss ls (u 0 e (omega arith)), omega arith), use_of p b e lt ss ls (u 1 e (omega arith)))
uses_of p b (kind.Zero base len) lt small ss ls u w = let most : base + len ≤ b.cells = array_below b.locals b.cells base len ls w in omega arith
uses_of p b (kind.If e first second) lt small ss ls u w = use_of p b e lt ss ls (u 0 e (omega arith))
uses_of p b (kind.While e body) lt small ss ls u w = use_of p b e lt ss ls (u 0 e (omega arith))
uses_of p b (kind.Call f arguments into) lt small ss ls u w = each_of (IsValidUse p b) (IsUse p.exprs b.cells) arguments (λ e h. use_of p b e lt ss ls h) u
uses_of p b (kind.Return None) lt small ss ls u w = tt
uses_of p b (kind.Return (Some e)) lt small ss ls u w = use_of p b e lt ss ls (u 0 e (omega arith))
uses_of p b (kind.P s) lt small ss ls u w = tt
uses_of p b (kind.V s) lt small ss ls u w = tt
uses_of p b (kind.Send c e) lt small ss ls u w = use_of p b e lt ss ls (u 0 e (omega arith))
uses_of p b (kind.Recv c into) lt small ss ls u w = tt
uses_of p b (kind.Print e) lt small ss ls u w = use_of p b e lt ss ls (u 0 e (omega arith))
uses_of p b (kind.Assert e) lt small ss ls u w = use_of p b e lt ss ls (u 0 e (omega arith))
uses_of p b kind.End lt small ss ls u w = tt

params_fit : (locals : List Var) (params n : ℕ) → AreParams locals params → CoverCells locals n → params ≤ n
params_fit locals zero n h ls = omega arith
params_fit locals (suc k) n h ls =
    let at = some_and (λ (v : Var). (v.base ≡ k) × (v.len ≡ None)) (slice_get locals k) (h k (omega arith)) in
    let within : after at.0 ≤ n = get_at (λ (v : Var). after v ≤ n) locals k at.0 ls.within at.1 in
    let one : unwrap_or at.0.len 1 ≡ 1 = ap (λ o. unwrap_or o 1) at.2.1 in
    let base : at.0.base ≡ k = at.2.0 in
    omega arith

callable : (p : Program) (f count : ℕ) (g : Body) → IsValid p → f < p.functions → slice_get p.bodies f ≡ Some g → count ≡ g.params → IsCallable p f count
callable p f count g v lt e n =
    let valid : IsValidBody p f g = valid_body p f g v e in
    let size : size_of p f ≡ g.cells = ap (λ o. (unwrap_or o no_body).cells) e in
    let fit : g.params ≤ g.cells = params_fit g.locals g.params g.cells valid.params valid.cells in
    let test : nat_le p.functions f ≡ false = grind (arith, nat_tests) in
    let top : AreOfFunction p g.cells g.top = function_top p f g v e (valid.process ∙ test) valid in
    let there : AreOfFunction p g.cells (body_numbered p f).top = subst (λ (ss : List ℕ). AreOfFunction p g.cells ss) (sym (ap (λ o. (unwrap_or o no_body).top) e)) top in
    record {
      there = slice_get_within p.bodies f g e;
      arguments = omega arith;
      top = subst (λ (m : ℕ). AreOfFunction p m (body_numbered p f).top) (sym size) there;
    }

leads_of : (p : Program) (k body n : ℕ) (s : Kind) → IsValid p → size_of p body ≡ n → StandIn p.stmts (Some k) body (inner s) → CallsRightly p s → LeadsOn p n s
leads_of p k body n (kind.If e first second) v size h c = (
  each_of (λ i. IsSomeAnd (slice_get p.stmts i) (λ s. (s.parent ≡ Some k) × (s.body ≡ body))) (IsInner p n) first (λ i g. inner_of p k body n i v size g) (front (λ i. IsSomeAnd (slice_get p.stmts i) (λ s. (s.parent ≡ Some k) × (s.body ≡ body))) first second h),
  each_of (λ i. IsSomeAnd (slice_get p.stmts i) (λ s. (s.parent ≡ Some k) × (s.body ≡ body))) (IsInner p n) second (λ i g. inner_of p k body n i v size g) (tail (λ i. IsSomeAnd (slice_get p.stmts i) (λ s. (s.parent ≡ Some k) × (s.body ≡ body))) first second h),
)
leads_of p k body n (kind.While e inside) v size h c =
    each_of (λ i. IsSomeAnd (slice_get p.stmts i) (λ s. (s.parent ≡ Some k) × (s.body ≡ body))) (IsInner p n) inside (λ i g. inner_of p k body n i v size g) h
leads_of p k body n (kind.Call f arguments into) v size h c = call (slice_get p.bodies f) refl c.1
  where
    call : (o : Option Body) → slice_get p.bodies f ≡ o → IsSomeAnd o (λ g. (length arguments ≡ g.params) × (IsSome into → IsTrue g.value)) → IsCallable p f (length arguments)
    call None e g = absurd g
    call (Some b) e g = callable p f (length arguments) b v c.0 e g.0
leads_of p k body n s v size h c = tt

-- the processes of a valid program can run
pub valid-runnable : (program : Program) → IsValid program → IsRunnable program
valid-runnable p v = record {
  children = v.children;
  stmts = λ k s lt. stmt k (get_or p.stmts k s) (v.stmts k s lt);
  bodies = λ j b lt. body j (get_or p.bodies j b) (v.bodies j b lt) (there_get j b lt);
}
  where
    small : length p.starts < 2 ^ 16
    small = let most : length p.starts ≤ MOST_SHARED_CELLS = v.limits.starts in omega arith

    there_get : (j : ℕ) (b : Body) → j < length p.bodies → slice_get p.bodies j ≡ Some (get_or p.bodies j b)
    there_get j b lt = slice_get-get_or p.bodies j b lt

    stmt : (k : ℕ) (s : Stmt) → IsValidStmt p k s → IsRunnableStmt p s
    stmt k s h =
        let at = some_and (λ (b : Body). IsValidKind p b k s.kind) (slice_get p.bodies s.body) h.kind in
        let valid : IsValidBody p s.body at.0 = valid_body p s.body at.0 v at.1 in
        let size : size_of p s.body ≡ at.0.cells = ap (λ o. (unwrap_or o no_body).cells) at.1 in
        let frame : at.0.cells ≤ MOST_LOCAL_CELLS = valid.frame in
        let uses : AreUses p.exprs at.0.cells s.kind = uses_of p at.0 s.kind small (omega arith) v.cells valid.cells at.2.uses at.2.writes in
        record {
          uses = subst (λ (n : ℕ). AreUses p.exprs n s.kind) (sym size) uses;
          leads = leads_of p k s.body (size_of p s.body) s.kind v refl h.inside at.2.call;
        }

    body : (j : ℕ) (b : Body) → IsValidBody p j b → slice_get p.bodies j ≡ Some b → IsRunnableBody p j b
    body j b h e =
        let frame : b.cells ≤ MOST_LOCAL_CELLS = h.frame in
        record {
          cells = omega arith;
          top = λ from. each_of (λ i. IsSomeAnd (slice_get p.stmts i) (λ s. (s.parent ≡ None) × (s.body ≡ j))) (IsInner p b.cells) b.top (λ i g. process_of p j b.cells i b v (ap (λ o. (unwrap_or o no_body).cells) e) e (process from) g) h.top;
        }
      where
        process : p.functions ≤ j → b.process ≡ true
        process from = let test : nat_le p.functions j ≡ true = grind (arith, nat_tests) in h.process ∙ test

-- the numbers of a valid plan's blocks and units have 16 bits
pub valid-numbered : (program : Program) (plan : Plan) → IsValid program → IsValidPlan program plan → IsNumbered plan
valid-numbered p plan v h =
    let stmts : length p.stmts ≤ MOST_STATEMENTS = v.limits.stmts in
    let functions : p.functions ≤ MOST_FUNCTIONS = v.limits.functions in
    let bodies : length p.bodies ≤ p.functions + MOST_PROCESSES = v.limits.processes in
    record {
      blocks = omega (arith, few_plan_blocks p plan v h);
      units = omega (arith, few_plan_units p plan v h);
    }
