-- The cells of an expression, from those of its children.
use Rattle.std.specs.Prelude.{not}
use Rattle.std.proofs.Common.{◌≡◌, ◌⊎◌, ℕ, zero, suc, ◌+◌, ◌<◌, ◌≤◌, ℤ, pos, List, [], ◌∷◌, ◌++◌, Bool, length, get_or, refl, sym, ap, arith, length-append}
use Rattle.ppd_ast.specs.declared.program.Expr.TheVariants as E
use Rattle.ppd_ast.specs.declared.program.Op.{Op}
use Rattle.ppd_ast.specs.Table.{EachAt, AreChildrenBelow}
use Rattle.ppd_ast.proofs.Deciding.{at_node, at_single, at_pair}
use Rattle.ppd_sets.specs.Gained.{Gains}
use Rattle.ppd_sets.proofs.Gaining.{gains_none, gains_then, gains_as}
use Rattle.ppd_ast.specs.declared.program.Expr.{Expr}
use Rattle.ppd_ast.specs.Term.{Term, const, term_at, node, terms, term}
use Rattle.ppd_ast.proofs.Vocabulary.{terms_after}
use Rattle.ppd_sets.specs.Named.{cells_in, cells_if}

long_after : (done : List Term) (es : List Expr) → length (terms_after done es) ≡ length done + length es
long_after done [] = omega arith
long_after done (e ∷ es) = let more = long_after (done ++ node done e ∷ []) es in omega (arith, more, length-append done (node done e ∷ []))

long : (es : List Expr) → length (terms es) ≡ length es
unfolding terms
long es = let l = long_after [] es in omega (arith, l)

past_end : (ts : List Term) (i : ℕ) → length ts ≤ i → term_at ts i ≡ const (pos 0)
past_end [] i h = refl
past_end (t ∷ ts) zero h = absurd (omega arith)
past_end (t ∷ ts) (suc i) h = past_end ts i (omega arith)

pub past_none : (w : Bool) (es : List Expr) (i : ℕ) → length es ≤ i → cells_in w (term es i) ≡ []
past_none w es i h = let n : length (terms es) ≡ length es = long es in ap (cells_in w) (past_end (terms es) i (omega arith))

pub gains_past_end : (a : List ℕ) (w : Bool) (es : List Expr) (i : ℕ) → length es ≤ i → Gains a a (cells_in w (term es i))
gains_past_end a w es i h = gains_as [] (cells_in w (term es i)) (sym (past_none w es i h)) (gains_none a)

module _ (w : Bool) (es : List Expr) (i : ℕ) (dflt : Expr) (below : EachAt AreChildrenBelow es) (there : i < length es) where
  pub gains_const : {a : List ℕ} (v : ℤ) → get_or es i dflt ≡ E.Const v → Gains a a (cells_in w (term es i))
  gains_const {a} v is = at_node (λ u. Gains a a (cells_in w u)) es i dflt (E.Const v) below there is (gains_none a)

  pub gains_local : {a b : List ℕ} (c : ℕ) → get_or es i dflt ≡ E.Local c → Gains a b (cells_if (not w) c 1) → Gains a b (cells_in w (term es i))
  gains_local {a} {b} c is g = at_node (λ u. Gains a b (cells_in w u)) es i dflt (E.Local c) below there is g

  pub gains_shared : {a b : List ℕ} (c : ℕ) → get_or es i dflt ≡ E.Shared c → Gains a b (cells_if w c 1) → Gains a b (cells_in w (term es i))
  gains_shared {a} {b} c is g = at_node (λ u. Gains a b (cells_in w u)) es i dflt (E.Shared c) below there is g

  pub gains_local_at : {a b d : List ℕ} (base len at : ℕ) → get_or es i dflt ≡ E.LocalAt base len at → Gains a b (cells_if (not w) base len) → Gains b d (cells_in w (term es at)) → Gains a d (cells_in w (term es i))
  gains_local_at {a} {b} {d} base len at is g k = at_node (λ u. Gains a d (cells_in w u)) es i dflt (E.LocalAt base len at) below there is (gains_then g k)

  pub gains_shared_at : {a b d : List ℕ} (base len at : ℕ) → get_or es i dflt ≡ E.SharedAt base len at → Gains a b (cells_if w base len) → Gains b d (cells_in w (term es at)) → Gains a d (cells_in w (term es i))
  gains_shared_at {a} {b} {d} base len at is g k = at_node (λ u. Gains a d (cells_in w u)) es i dflt (E.SharedAt base len at) below there is (gains_then g k)

  pub gains_single : {a b : List ℕ} (x : ℕ) → (get_or es i dflt ≡ E.Neg x) ⊎ (get_or es i dflt ≡ E.Not x) → Gains a b (cells_in w (term es x)) → Gains a b (cells_in w (term es i))
  gains_single {a} {b} x is g = at_single (λ u. Gains a b (cells_in w u)) es i x dflt below there is g g

  pub gains_pair : {a b d : List ℕ} (x y : ℕ) → ((op : Op) × (get_or es i dflt ≡ E.Two op x y)) ⊎ ((get_or es i dflt ≡ E.And x y) ⊎ (get_or es i dflt ≡ E.Or x y)) → Gains a b (cells_in w (term es x)) → Gains b d (cells_in w (term es y)) → Gains a d (cells_in w (term es i))
  gains_pair {a} {b} {d} x y is g k = at_pair (λ u. Gains a d (cells_in w u)) es i x y dflt below there is (λ op. gains_then g k) (gains_then g k) (gains_then g k)
