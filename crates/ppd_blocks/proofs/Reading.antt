-- The shared cells that statements may read.
use Rattle.std.proofs.Common.{◌≡◌, ℕ, ◌+◌, ◌<◌, ◌≤◌, List, [], true, Option, Some, None, length, sym, ap, ◌∙◌, subst, refl, inl, inr, arith, true≢false}
use Rattle.std.specs.Prelude.{IsTrue, slice_get}
use Rattle.std.specs.List.{flat_map}
use Rattle.std.proofs.lemmas.Bool.{cases_lt}
use Rattle.ppd_ast.specs.declared.program.Stmt.{Stmt}
use Rattle.ppd_ast.specs.declared.program.Program.{Program}
use Rattle.ppd_ast.specs.Term.{Term, const, local, local_at, shared, shared_at, neg, not, two, and, or, term}
use Rattle.ppd_ast.specs.Uses.{kind_uses}
use Rattle.ppd_ast.specs.Valid.{IsValid}
use Rattle.ppd_ast.proofs.ValidLaws.{AreBelow, stmt_in_body, uses_below}
use Rattle.ppd_ast.proofs.Walks.{got_none}
use Rattle.ppd_ast.specs.Members.{has, those}
use Rattle.ppd_ast.proofs.Vocabulary.{kind_of_stmt}
use Rattle.ppd_ast.proofs.Members.{has_cases, below_range, flat_gives, all_has}
use Rattle.ppd_ast.specs.declared.limits.TheConstants.{MOST_SHARED_CELLS}
use Rattle.ppd_sets.specs.Reach.{closure, leads}
use Rattle.ppd_sets.specs.Gained.{Gains, HasCells}
use Rattle.ppd_sets.specs.Named.{cells_in, reads, cells_if}
use Rattle.ppd_sets.specs.Used.{reads_at, sorted}
use Rattle.ppd_sets.proofs.Gaining.{gains_none, gains_as}
use Rattle.ppd_sets.proofs.Meeting.{sorted_is}
use Rattle.ppd_blocks.proofs.Vocabulary.{cells_along}

pub reads_past : (a : List ℕ) (p : Program) (s : ℕ) → slice_get p.stmts s ≡ None → Gains a a (reads_at true p s)
reads_past a p s at = gains_as [] (reads_at true p s) (sym (ap (λ (o : Option Stmt). reads true p.exprs (kind_of_stmt o)) at)) (gains_none a)

-- only a statement that is there reads
pub read_is_stmt : (p : Program) (s c : ℕ) → IsTrue (has (reads_at true p s) c) → s < length p.stmts
read_is_stmt p s c h = elim (cases_lt s (length p.stmts)) [
  | inl below ↦ below
  | inr past ↦ absurd (true≢false (sym (subst (λ (o : Option Stmt). IsTrue (has (reads true p.exprs (kind_of_stmt o)) c)) (got_none p.stmts s past) h)))
]

-- the cells of the statements that the rows lead to
pub along_is : (p : Program) (rows : List (List ℕ)) (starts stmts set cells : List ℕ) → length rows ≡ length p.stmts → stmts ≡ those (length rows) (leads (closure rows) starts) →
    HasCells set (flat_map (reads_at true p) stmts) → cells ≡ those MOST_SHARED_CELLS (has set) → cells ≡ cells_along p rows starts
along_is p rows starts stmts set cells long found has_them is =
    sorted_is set (flat_map (reads_at true p) stmts) cells is has_them
    ∙ ap (λ ss. sorted (flat_map (reads_at true p) ss)) (found ∙ ap (λ n. those n (leads (closure rows) starts)) long)

-- ---- they are below the count of shared cells

shared_below : (base len m c : ℕ) → base + len ≤ m → IsTrue (has (cells_if true base len) c) → c < m
shared_below base len m c l h = let inside = below_range base len c h in omega (arith, l, inside.1)

cells_below : (m n : ℕ) (t : Term) (c : ℕ) → AreBelow m n t → IsTrue (has (cells_in true t) c) → c < m
cells_below m n (const v) c b h = absurd (true≢false (sym h))
cells_below m n (local x) c b h = absurd (true≢false (sym h))
cells_below m n (local_at base len i) c b h = cells_below m n i c b.1 h
cells_below m n (shared x) c b h = shared_below x 1 m c (omega (arith, b)) h
cells_below m n (shared_at base len i) c b h =
    elim (has_cases (cells_if true base len) (cells_in true i) c h) [ inl l ↦ shared_below base len m c b.0 l | inr r ↦ cells_below m n i c b.1 r ]
cells_below m n (neg x) c b h = cells_below m n x c b h
cells_below m n (not x) c b h = cells_below m n x c b h
cells_below m n (two op x y) c b h = elim (has_cases (cells_in true x) (cells_in true y) c h) [ inl l ↦ cells_below m n x c b.0 l | inr r ↦ cells_below m n y c b.1 r ]
cells_below m n (and x y) c b h = elim (has_cases (cells_in true x) (cells_in true y) c h) [ inl l ↦ cells_below m n x c b.0 l | inr r ↦ cells_below m n y c b.1 r ]
cells_below m n (or x y) c b h = elim (has_cases (cells_in true x) (cells_in true y) c h) [ inl l ↦ cells_below m n x c b.0 l | inr r ↦ cells_below m n y c b.1 r ]

kind_below : (p : Program) (s c : ℕ) (o : Option Stmt) → IsValid p → slice_get p.stmts s ≡ o → IsTrue (has (reads true p.exprs (kind_of_stmt o)) c) → c < length p.starts
kind_below p s c None v at h = absurd (true≢false (sym h))
kind_below p s c (Some x) v at h =
    let b = stmt_in_body p s x v at in
    let e = flat_gives (λ e. cells_in true (term p.exprs e)) (kind_uses x.kind) c h in
    let below = all_has (λ e. AreBelow (length p.starts) b.0.cells (term p.exprs e)) (kind_uses x.kind) e.0 (uses_below p x.body s b.0 x.kind v b.1 b.2) e.1 in
    cells_below (length p.starts) b.0.cells (term p.exprs e.0) c below e.2

pub reads_below : (p : Program) (s c : ℕ) → IsValid p → IsTrue (has (reads_at true p s) c) → c < length p.starts
reads_below p s c v h = kind_below p s c (slice_get p.stmts s) v refl h
