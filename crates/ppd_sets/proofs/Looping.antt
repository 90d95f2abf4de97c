-- The local cells of a loop are those of the statements inside it.
use Rattle.ppd_ast.specs.Order.{preorder}
use Rattle.std.proofs.Common.{◌≡◌, ◌↔◌, ℕ, ◌+◌, ◌<◌, ◌≤◌, List, [], true, false, Option, Some, None, length, refl, sym, subst, arith, inl, inr, true≢false}
use Rattle.std.specs.Prelude.{IsTrue, slice_get}
use Rattle.std.specs.List.{flat_map, range_with_len}
use Rattle.std.proofs.lemmas.Bool.{cond-true}
use Rattle.ppd_ast.specs.declared.limits.TheConstants.{MOST_SHARED_CELLS, MOST_NESTING}
use Rattle.ppd_ast.specs.declared.program.Kind.{Kind}
use Rattle.ppd_ast.specs.declared.program.Kind.TheVariants as K
use Rattle.ppd_ast.specs.declared.program.Target.{Target}
use Rattle.ppd_ast.specs.declared.program.Target.TheVariants as T
use Rattle.ppd_ast.specs.declared.program.Stmt.{Stmt}
use Rattle.ppd_ast.specs.declared.program.Var.{Var}
use Rattle.ppd_ast.specs.declared.program.Program.{Program}
use Rattle.ppd_ast.specs.Cells.{CoverCells, WritesWhole}
use Rattle.ppd_ast.specs.Numbered.{is_while}
use Rattle.ppd_ast.specs.Term.{Term, const, local, local_at, shared, shared_at, neg, not, two, and, or, term}
use Rattle.ppd_ast.specs.Uses.{kind_uses}
use Rattle.ppd_ast.specs.Valid.{IsValid}
use Rattle.ppd_ast.proofs.ValidLaws.{AreBelow, IsBelow, scalar_below, array_below, target_below, stmt_in_body, uses_below, valid_body}
use Rattle.ppd_ast.specs.Members.{has}
use Rattle.ppd_ast.specs.Lookups.{kind_of}
use Rattle.ppd_ast.proofs.Vocabulary.{kind_of_stmt}
use Rattle.ppd_ast.proofs.Members.{has_cases, has_filter, filter_has, from_zero, below_range, flat_gives, flat_from, all_has}
use Rattle.ppd_sets.specs.Named.{cells_in, reads, writes, cells_if}
use Rattle.ppd_sets.specs.Used.{reads_at, sorted, writes_at, IsLoopDefined, IsLoopUsed, local_in}
use Rattle.ppd_sets.specs.Laws.{LoopDefinedByStatements, LoopUsedByStatements}

-- ---- the cells that a valid program names are few

local_below : (base len n c : ℕ) → base + len ≤ n → IsTrue (has (cells_if true base len) c) → c < n
local_below base len n c l h = let inside = below_range base len c h in omega (arith, l, inside.1)

pub cells_below : (m n : ℕ) (t : Term) (c : ℕ) → AreBelow m n t → IsTrue (has (cells_in false t) c) → c < n
cells_below m n (const v) c b h = absurd (true≢false (sym h))
cells_below m n (local x) c b h = local_below x 1 n c (omega (arith, b)) h
cells_below m n (local_at base len i) c b h =
    elim (has_cases (cells_if true base len) (cells_in false i) c h) [ inl l ↦ local_below base len n c b.0 l | inr r ↦ cells_below m n i c b.1 r ]
cells_below m n (shared x) c b h = absurd (true≢false (sym h))
cells_below m n (shared_at base len i) c b h = cells_below m n i c b.1 h
cells_below m n (neg x) c b h = cells_below m n x c b h
cells_below m n (not x) c b h = cells_below m n x c b h
cells_below m n (two op x y) c b h = elim (has_cases (cells_in false x) (cells_in false y) c h) [ inl l ↦ cells_below m n x c b.0 l | inr r ↦ cells_below m n y c b.1 r ]
cells_below m n (and x y) c b h = elim (has_cases (cells_in false x) (cells_in false y) c h) [ inl l ↦ cells_below m n x c b.0 l | inr r ↦ cells_below m n y c b.1 r ]
cells_below m n (or x y) c b h = elim (has_cases (cells_in false x) (cells_in false y) c h) [ inl l ↦ cells_below m n x c b.0 l | inr r ↦ cells_below m n y c b.1 r ]

set_below : (m n : ℕ) (t : Target) (e c : ℕ) → IsBelow m n t → IsTrue (has (writes false (K.Set t e)) c) → c < n
set_below m n (T.Local x) e c b h = local_below x 1 n c (omega (arith, b)) h
set_below m n (T.LocalAt base len i) e c b h = local_below base len n c b h
set_below m n (T.Shared x) e c b h = absurd (true≢false (sym h))
set_below m n (T.SharedAt base len i) e c b h = absurd (true≢false (sym h))

module _ (shareds locals : List Var) (m n : ℕ) (over : CoverCells shareds m) (under : CoverCells locals n) where
  pub writes_below : (k : Kind) (c : ℕ) → WritesWhole shareds locals k → IsTrue (has (writes false k) c) → c < n
  writes_below (K.Set t e) c w h = set_below m n t e c (target_below shareds locals m n over under t w) h
  writes_below (K.Zero base len) c w h = local_below base len n c (array_below locals n base len under w) h
  writes_below (K.Call f args None) c w h = absurd (true≢false (sym h))
  writes_below (K.Call f args (Some r)) c w h = let l = scalar_below locals n r under w in local_below r 1 n c (omega (arith, l)) h
  writes_below (K.Recv s into) c w h = let l = scalar_below locals n into under w in local_below into 1 n c (omega (arith, l)) h
  writes_below (K.If e first second) c w h = absurd (true≢false (sym h))
  writes_below (K.While e body) c w h = absurd (true≢false (sym h))
  writes_below (K.Return v) c w h = absurd (true≢false (sym h))
  writes_below (K.P s) c w h = absurd (true≢false (sym h))
  writes_below (K.V s) c w h = absurd (true≢false (sym h))
  writes_below (K.Send s e) c w h = absurd (true≢false (sym h))
  writes_below (K.Print e) c w h = absurd (true≢false (sym h))
  writes_below (K.Assert e) c w h = absurd (true≢false (sym h))
  writes_below K.End c w h = absurd (true≢false (sym h))

reads_small : (p : Program) (s c : ℕ) (o : Option Stmt) → IsValid p → slice_get p.stmts s ≡ o → IsTrue (has (reads false p.exprs (kind_of_stmt o)) c) → c < MOST_SHARED_CELLS
reads_small p s c None v at h = absurd (true≢false (sym h))
reads_small p s c (Some x) v at h =
    let b = stmt_in_body p s x v at in
    let frame = (valid_body p x.body b.0 v b.1).frame in
    let e = flat_gives (λ e. cells_in false (term p.exprs e)) (kind_uses x.kind) c h in
    let below = all_has (λ e. AreBelow (length p.starts) b.0.cells (term p.exprs e)) (kind_uses x.kind) e.0 (uses_below p x.body s b.0 x.kind v b.1 b.2) e.1 in
    let l = cells_below (length p.starts) b.0.cells (term p.exprs e.0) c below e.2 in
    omega (arith, l, frame)

writes_small : (p : Program) (s c : ℕ) (o : Option Stmt) → IsValid p → slice_get p.stmts s ≡ o → IsTrue (has (writes false (kind_of_stmt o)) c) → c < MOST_SHARED_CELLS
writes_small p s c None v at h = absurd (true≢false (sym h))
writes_small p s c (Some x) v at h =
    let b = stmt_in_body p s x v at in
    let body = valid_body p x.body b.0 v b.1 in
    let frame = body.frame in
    let l = writes_below p.shared b.0.locals (length p.starts) b.0.cells v.cells body.cells x.kind c b.2.writes h in
    omega (arith, l, frame)

-- ---- so the sorted cells are all of them

sorted_law : (cells : List ℕ) (c : ℕ) → (IsTrue (has cells c) → c < MOST_SHARED_CELLS) → IsTrue (has (sorted cells) c) ↔ IsTrue (has cells c)
unfolding sorted
sorted_law cells c small = (
  (λ h. (has_filter (has cells) (range_with_len 0 MOST_SHARED_CELLS) c h).1),
  (λ h. filter_has (has cells) (range_with_len 0 MOST_SHARED_CELLS) c (from_zero c MOST_SHARED_CELLS (small h)) h),
)

pub loop_used_by_statements : LoopUsedByStatements
loop_used_by_statements p q c v is =
    let f : ℕ → List ℕ = reads_at false p in
    let cells : List ℕ = flat_map f (preorder MOST_NESTING p.stmts q) in
    let same : local_in p (reads_at false p) q ≡ sorted cells = cond-true (is_while (kind_of p q)) (sorted cells) [] is in
    let small : IsTrue (has cells c) → c < MOST_SHARED_CELLS = λ h. (let s = flat_gives f (preorder MOST_NESTING p.stmts q) c h in reads_small p s.0 c (slice_get p.stmts s.0) v refl s.2) in
    let law = sorted_law cells c small in (
      (λ h. let s = flat_gives f (preorder MOST_NESTING p.stmts q) c (law.0 (subst (λ l. IsTrue (has l c)) same h)) in record { stmt = s.0; inside = s.1; read = s.2 }),
      (λ (u : IsLoopUsed p q c). subst (λ l. IsTrue (has l c)) (sym same) (law.1 (flat_from f (preorder MOST_NESTING p.stmts q) u.stmt c u.inside u.read))),
    )

pub loop_defined_by_statements : LoopDefinedByStatements
loop_defined_by_statements p q c v is =
    let f : ℕ → List ℕ = writes_at false p in
    let cells : List ℕ = flat_map f (preorder MOST_NESTING p.stmts q) in
    let same : local_in p (writes_at false p) q ≡ sorted cells = cond-true (is_while (kind_of p q)) (sorted cells) [] is in
    let small : IsTrue (has cells c) → c < MOST_SHARED_CELLS = λ h. (let s = flat_gives f (preorder MOST_NESTING p.stmts q) c h in writes_small p s.0 c (slice_get p.stmts s.0) v refl s.2) in
    let law = sorted_law cells c small in (
      (λ h. let s = flat_gives f (preorder MOST_NESTING p.stmts q) c (law.0 (subst (λ l. IsTrue (has l c)) same h)) in record { stmt = s.0; inside = s.1; written = s.2 }),
      (λ (u : IsLoopDefined p q c). subst (λ l. IsTrue (has l c)) (sym same) (law.1 (flat_from f (preorder MOST_NESTING p.stmts q) u.stmt c u.inside u.written))),
    )
