-- The local cells of a loop are cells of its body's frame.
use Rattle.ppd_ast.specs.Order.{preorder}
use Rattle.std.proofs.Common.{◌≡◌, ℕ, ◌<◌, List, [], ◌++◌, Bool, true, false, Some, length, refl, sym, ap, ◌∙◌, subst, arith, inl, inr, true≢false}
use Rattle.std.specs.Prelude.{IsTrue, slice_get, if◌then◌else◌}
use Rattle.std.specs.List.{flat_map}
use Rattle.std.specs.List.Sorted.{IsStrictlyIncreasing}
use Rattle.ppd_ast.specs.declared.program.Kind.{Kind}
use Rattle.ppd_ast.specs.declared.program.Stmt.{Stmt}
use Rattle.ppd_ast.specs.declared.program.Body.{Body}
use Rattle.ppd_ast.specs.declared.program.Program.{Program}
use Rattle.ppd_ast.specs.Numbered.{is_while}
use Rattle.ppd_ast.specs.Term.{term}
use Rattle.ppd_ast.specs.Uses.{kind_uses}
use Rattle.ppd_ast.specs.Valid.{IsValid}
use Rattle.ppd_ast.specs.ValidPlan.{AreCells}
use Rattle.ppd_ast.proofs.ValidLaws.{AreBelow, stmt_in_body, uses_below, valid_body}
use Rattle.ppd_ast.specs.Members.{has}
use Rattle.ppd_ast.specs.Lookups.{kind_of}
use Rattle.ppd_ast.proofs.Vocabulary.{kind_of_stmt}
use Rattle.ppd_ast.proofs.Members.{has_cases, flat_gives, all_has}
use Rattle.ppd_ast.specs.declared.limits.TheConstants.{MOST_NESTING}
use Rattle.ppd_sets.specs.Named.{cells_in, reads, writes}
use Rattle.ppd_sets.proofs.InBody.{InBody, inside_in}
use Rattle.ppd_sets.proofs.Looping.{cells_below, writes_below}
use Rattle.ppd_sets.specs.Used.{reads_at, sorted, writes_at, local_in}
use Rattle.ppd_blocks.proofs.Paths.{sorted_rises, sorted_gives, all_from}

-- ---- the statements inside a loop are of its body

itself : (p : Program) (q : ℕ) (x : Stmt) → slice_get p.stmts q ≡ Some x → InBody p x.body q
unfolding InBody
itself p q x at = (x, at, refl)

loop_in_body : (p : Program) (q s : ℕ) (x : Stmt) → IsValid p → slice_get p.stmts q ≡ Some x → IsTrue (has (preorder MOST_NESTING p.stmts q) s) → InBody p x.body s
loop_in_body p q s x v at h = inside_in MOST_NESTING p q s x.body v (itself p q x at) h

-- ---- what a statement names lies in its frame

reads_in_frame : (p : Program) (s c : ℕ) (b : Body) (x : Stmt) → IsValid p → slice_get p.stmts s ≡ Some x → slice_get p.bodies x.body ≡ Some b → IsTrue (has (reads_at false p s) c) → c < b.cells
reads_in_frame p s c b x v at is h =
    let g = stmt_in_body p s x v at in
    let same : Some g.0 ≡ Some b = sym g.1 ∙ is in
    let body : g.0 ≡ b = cc in
    let read : IsTrue (has (reads false p.exprs x.kind) c) = subst (λ (k : Kind). IsTrue (has (reads false p.exprs k) c)) (ap kind_of_stmt at) h in
    let e = flat_gives (λ e. cells_in false (term p.exprs e)) (kind_uses x.kind) c read in
    let below = all_has (λ e. AreBelow (length p.starts) g.0.cells (term p.exprs e)) (kind_uses x.kind) e.0 (uses_below p x.body s g.0 x.kind v g.1 g.2) e.1 in
    subst (λ (y : Body). c < y.cells) body (cells_below (length p.starts) g.0.cells (term p.exprs e.0) c below e.2)

writes_in_frame : (p : Program) (s c : ℕ) (b : Body) (x : Stmt) → IsValid p → slice_get p.stmts s ≡ Some x → slice_get p.bodies x.body ≡ Some b → IsTrue (has (writes_at false p s) c) → c < b.cells
writes_in_frame p s c b x v at is h =
    let g = stmt_in_body p s x v at in
    let same : Some g.0 ≡ Some b = sym g.1 ∙ is in
    let body : g.0 ≡ b = cc in
    let written : IsTrue (has (writes false x.kind) c) = subst (λ (k : Kind). IsTrue (has (writes false k) c)) (ap kind_of_stmt at) h in
    let valid = valid_body p x.body g.0 v g.1 in
    subst (λ (y : Body). c < y.cells) body (writes_below p.shared g.0.locals (length p.starts) g.0.cells v.cells valid.cells x.kind c g.2.writes written)

-- ---- so do the cells of a loop

module _ (p : Program) (q : ℕ) (x : Stmt) (b : Body) (v : IsValid p) (at : slice_get p.stmts q ≡ Some x) (is : slice_get p.bodies x.body ≡ Some b) where
  read_below_in : (s c : ℕ) → InBody p x.body s → IsTrue (has (reads_at false p s) c) → c < b.cells
  unfolding InBody
  read_below_in s c k h = reads_in_frame p s c b k.0 v k.1 (ap (slice_get p.bodies) k.2 ∙ is) h

  read_below : (s c : ℕ) → IsTrue (has (preorder MOST_NESTING p.stmts q) s) → IsTrue (has (reads_at false p s) c) → c < b.cells
  read_below s c i h = read_below_in s c (loop_in_body p q s x v at i) h

  written_below_in : (s c : ℕ) → InBody p x.body s → IsTrue (has (writes_at false p s) c) → c < b.cells
  unfolding InBody
  written_below_in s c k h = writes_in_frame p s c b k.0 v k.1 (ap (slice_get p.bodies) k.2 ∙ is) h

  written_below : (s c : ℕ) → IsTrue (has (preorder MOST_NESTING p.stmts q) s) → IsTrue (has (writes_at false p s) c) → c < b.cells
  written_below s c i h = written_below_in s c (loop_in_body p q s x v at i) h

  of_while : (f : ℕ → List ℕ) (test : Bool) (c : ℕ) → IsTrue (has (if test then sorted (flat_map f (preorder MOST_NESTING p.stmts q)) else []) c) → IsTrue (has (flat_map f (preorder MOST_NESTING p.stmts q)) c)
  of_while f true c h = sorted_gives (flat_map f (preorder MOST_NESTING p.stmts q)) c h
  of_while f false c h = absurd (true≢false (sym h))

  used_below : (c : ℕ) → IsTrue (has (local_in p (reads_at false p) q) c) → c < b.cells
  used_below c h = let t = flat_gives (reads_at false p) (preorder MOST_NESTING p.stmts q) c (of_while (reads_at false p) (is_while (kind_of p q)) c h) in read_below t.0 c t.1 t.2

  defined_below : (c : ℕ) → IsTrue (has (local_in p (writes_at false p) q) c) → c < b.cells
  defined_below c h = let t = flat_gives (writes_at false p) (preorder MOST_NESTING p.stmts q) c (of_while (writes_at false p) (is_while (kind_of p q)) c h) in written_below t.0 c t.1 t.2

  defined_rises : (test : Bool) → IsStrictlyIncreasing (if test then sorted (flat_map (writes_at false p) (preorder MOST_NESTING p.stmts q)) else [])
  defined_rises true = sorted_rises (flat_map (writes_at false p) (preorder MOST_NESTING p.stmts q))
  defined_rises false = λ k h. absurd (omega (arith, h))

  pub prelog_cells : AreCells b.cells (sorted (local_in p (reads_at false p) q ++ local_in p (writes_at false p) q))
  prelog_cells = record {
    rising = sorted_rises (local_in p (reads_at false p) q ++ local_in p (writes_at false p) q);
    below = all_from (λ c. c < b.cells) (sorted (local_in p (reads_at false p) q ++ local_in p (writes_at false p) q))
        (λ c h. elim (has_cases (local_in p (reads_at false p) q) (local_in p (writes_at false p) q) c (sorted_gives (local_in p (reads_at false p) q ++ local_in p (writes_at false p) q) c h)) [ inl l ↦ used_below c l | inr r ↦ defined_below c r ]);
  }

  pub postlog_cells : AreCells b.cells (local_in p (writes_at false p) q)
  postlog_cells = record { rising = defined_rises (is_while (kind_of p q)); below = all_from (λ c. c < b.cells) (local_in p (writes_at false p) q) defined_below }
