-- The local cells that a statement reads and writes, as lists and by its parts.
use Rattle.std.proofs.Common.{ℕ, ◌+◌, ◌<◌, false, List, [], ◌∷◌, Some, None, subst, arith, true}
use Rattle.std.specs.Prelude.{IsTrue}
use Rattle.ppd_ast.specs.declared.program.Expr.{Expr}
use Rattle.ppd_ast.specs.declared.program.Kind.{Kind}
use Rattle.ppd_ast.specs.declared.program.Kind.TheVariants.{Set, Zero, If, While, Call, Return, P, V, Send, Recv, Print, Assert, End}
use Rattle.ppd_ast.specs.declared.program.Target.TheVariants as target
use Rattle.ppd_ast.specs.Term.{Term, const, local, local_at, shared, shared_at, neg, not, two, and, or, term}
use Rattle.ppd_ast.specs.Uses.{kind_uses}
use Rattle.ppd_ast.specs.Members.{has}
use Rattle.ppd_ast.proofs.Members.{has_first, has_later, has_left, has_right, in_bounds_has, flat_from}
use Rattle.ppd_sets.specs.Named.{cells_in, reads, writes, cells_if}
use Rattle.law_steps.proofs.Vocabulary.Held.{IsWriting}
use Rattle.law_steps.proofs.Vocabulary.Over.{AreOverCells, IsKindOver, IsOverCells}
use Rattle.ppd_model.proofs.Changes.{some}

in_cells : (base len k : ℕ) → k < len → IsTrue (has (cells_if true base len) (base + k))
in_cells base len k lt = in_bounds_has base len (base + k) (omega arith) (omega arith)

one_cell : (c : ℕ) → IsTrue (has (cells_if true c 1) c)
one_cell c = in_bounds_has c 1 c (omega arith) (omega arith)

module _ (used : ℕ → Type 0) where
  over : (t : Term) → ((c : ℕ) → IsTrue (has (cells_in false t) c) → used c) → IsOverCells used t
  over (const v) h = tt
  over (local c) h = h c (one_cell c)
  over (local_at base len i) h = (
    λ k lt. h (base + k) (has_left (cells_if true base len) (cells_in false i) (base + k) (in_cells base len k lt)),
    over i (λ c e. h c (has_right (cells_if true base len) (cells_in false i) c e)),
  )
  over (shared c) h = tt
  over (shared_at base len i) h = over i h
  over (neg a) h = over a h
  over (not a) h = over a h
  over (two op a b) h = (
    over a (λ c e. h c (has_left (cells_in false a) (cells_in false b) c e)),
    over b
        (λ c e. h c (has_right (cells_in false a) (cells_in false b) c e)),
  )
  over (and a b) h = (
    over a (λ c e. h c (has_left (cells_in false a) (cells_in false b) c e)),
    over b
        (λ c e. h c (has_right (cells_in false a) (cells_in false b) c e)),
  )
  over (or a b) h = (
    over a (λ c e. h c (has_left (cells_in false a) (cells_in false b) c e)),
    over b
        (λ c e. h c (has_right (cells_in false a) (cells_in false b) c e)),
  )

  module _ (es : List Expr) where
    all_over : (as' : List ℕ) → ((e : ℕ) → IsTrue (has as' e) → IsOverCells used (term es e)) → AreOverCells used es as'
    all_over [] h = tt
    all_over (a ∷ as') h = (h a (has_first a as'), all_over as' (λ e i. h e (has_later a e as' i)))

    by_uses : (k : Kind) → ((e : ℕ) → IsTrue (has (kind_uses k) e) → IsOverCells used (term es e)) → IsKindOver used es k
    by_uses (Set (target.Local c) e) h = h e (has_first e [])
    by_uses (Set (target.LocalAt base len i) e) h =
        (h i (has_first i (e ∷ [])), h e (has_later i e (e ∷ []) (has_first e [])))
    by_uses (Set (target.Shared c) e) h = h e (has_first e [])
    by_uses (Set (target.SharedAt base len i) e) h =
        (h i (has_first i (e ∷ [])), h e (has_later i e (e ∷ []) (has_first e [])))
    by_uses (Zero base len) h = tt
    by_uses (If e first second) h = h e (has_first e [])
    by_uses (While e body) h = h e (has_first e [])
    by_uses (Call f arguments into) h = all_over arguments h
    by_uses (Return None) h = tt
    by_uses (Return (Some e)) h = h e (has_first e [])
    by_uses (P s) h = tt
    by_uses (V s) h = tt
    by_uses (Send c e) h = h e (has_first e [])
    by_uses (Recv c into) h = tt
    by_uses (Print e) h = h e (has_first e [])
    by_uses (Assert e) h = h e (has_first e [])
    by_uses End h = tt

    -- a statement reads the cells that it names
    pub kind_over : (k : Kind) → ((c : ℕ) → IsTrue (has (reads false es k) c) → used c) → IsKindOver used es k
    kind_over k h = by_uses k
        (λ e i. over (term es e) (λ c j. h c (flat_from (λ x. cells_in false (term es x)) (kind_uses k) e c i j)))

-- and writes those that it names
pub kind_writing : (written : ℕ → Type 0) (k : Kind) → ((c : ℕ) → IsTrue (has (writes false k) c) → written c)
    → IsWriting written k
kind_writing written (Set (target.Local c) e) h = h c (one_cell c)
kind_writing written (Set (target.LocalAt base len i) e) h = λ k lt. h (base + k) (in_cells base len k lt)
kind_writing written (Set (target.Shared c) e) h = tt
kind_writing written (Set (target.SharedAt base len i) e) h = tt
kind_writing written (Zero base len) h = λ k lt. h (base + k) (in_cells base len k lt)
kind_writing written (Call f arguments None) h = λ c e. absurd cc
kind_writing written (Call f arguments (Some r)) h = λ c e. subst written (some e) (h r (one_cell r))
kind_writing written (Recv chan into) h = h into (one_cell into)
kind_writing written (If e first second) h = tt
kind_writing written (While e body) h = tt
kind_writing written (Return e) h = tt
kind_writing written (P s) h = tt
kind_writing written (V s) h = tt
kind_writing written (Send c e) h = tt
kind_writing written (Print e) h = tt
kind_writing written (Assert e) h = tt
kind_writing written End h = tt
