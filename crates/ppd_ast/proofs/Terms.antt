-- The tree of an expression is made of its children's trees.
use Rattle.std.proofs.Common.{◌≡◌, ℕ, zero, suc, ◌+◌, ◌<◌, pos, List, [], ◌∷◌, ◌++◌, length, get_or, Some, refl, ap, subst, ◌∙◌, sym, arith, length-append}
use Rattle.std.specs.Prelude.{slice_get}
use Rattle.std.proofs.lemmas.Option.{slice_get-get_or}
use Rattle.std.proofs.Math.ListN.{get_or-append}
use Rattle.std.proofs.Math.Seq.{get_or-append_seam}
use Rattle.ppd_ast.specs.declared.program.Expr.{Expr}
use Rattle.ppd_ast.specs.declared.program.Expr.TheVariants.{Const, Local, LocalAt, Shared, SharedAt, Neg, Not, Two, And, Or}
use Rattle.ppd_ast.specs.Term.{Term, const, term_at, node, terms, term}
use Rattle.ppd_ast.proofs.Vocabulary.{terms_after}
use Rattle.ppd_ast.specs.Table.{AreChildrenBelow, EachAt}

-- what is done stays
kept : (done : List Term) (es : List Expr) (i : ℕ) (d : Term) → i < length done → get_or (terms_after done es) i d ≡ get_or done i d
kept done [] i d h = refl
kept done (e ∷ es) i d h =
    kept (done ++ node done e ∷ []) es i d (omega (arith, length-append done (node done e ∷ []))) ∙ get_or-append done (node done e ∷ []) d i h

node_same : (xs ys : List Term) (n : ℕ) (e : Expr) → AreChildrenBelow n e → ((i : ℕ) → i < n → term_at xs i ≡ term_at ys i) → node xs e ≡ node ys e
node_same xs ys n (Const v) c same = refl
node_same xs ys n (Local v) c same = refl
node_same xs ys n (LocalAt base len i) c same = cc (same i c)
node_same xs ys n (Shared v) c same = refl
node_same xs ys n (SharedAt base len i) c same = cc (same i c)
node_same xs ys n (Neg a) c same = cc (same a c)
node_same xs ys n (Not a) c same = cc (same a c)
node_same xs ys n (Two op a b) c same = cc (same a c.0, same b c.1)
node_same xs ys n (And a b) c same = cc (same a c.0, same b c.1)
node_same xs ys n (Or a b) c same = cc (same a c.0, same b c.1)

at : (done : List Term) (es : List Expr) (k n : ℕ) (e : Expr) → slice_get es k ≡ Some e → n ≡ length done + k → AreChildrenBelow n e → term_at (terms_after done es) n ≡ node (terms_after done es) e
at done [] k n e h eq c = cc
at done (x ∷ es) zero n e h eq c =
    let more : List Term = done ++ node done x ∷ [] in
    let long : n < length more = omega (arith, length-append done (node done x ∷ [])) in
    let here : term_at (terms_after more es) n ≡ term_at more n = kept more es n (const (pos 0)) long in
    let n_is : n ≡ length done = omega arith in
    let seam : term_at more (length done) ≡ node done x = get_or-append_seam done (node done x) [] (const (pos 0)) in
    let x_is : x ≡ e = cc in
    let same : node done e ≡ node (terms_after more es) e =
    node_same done (terms_after more es) n e c (λ i b.
    let short : i < length done = omega arith in
    sym (kept more es i (const (pos 0)) (omega arith) ∙ get_or-append done (node done x ∷ []) (const (pos 0)) i short)) in
    cc
at done (x ∷ es) (suc k) n e h eq c =
    at (done ++ node done x ∷ []) es k n e h (omega (arith, length-append done (node done x ∷ []))) c

pub term-node : (es : List Expr) (i : ℕ) (e : Expr) → slice_get es i ≡ Some e → AreChildrenBelow i e → term es i ≡ node (terms es) e
unfolding terms
term-node es i e h c = at [] es i i e h (omega arith) c

-- the same, at an expression that the code has read
pub term_read : (es : List Expr) (i : ℕ) (d e : Expr) → EachAt AreChildrenBelow es → i < length es → get_or es i d ≡ e → term es i ≡ node (terms es) e
term_read es i d e below inside read =
    let is : slice_get es i ≡ Some e = slice_get-get_or es i d inside ∙ ap Some read in
    term-node es i e is (subst (AreChildrenBelow i) read (below i d inside))
