use Rattle.std.proofs.Common.{◌≡◌, ◌↔◌, ℕ, Bool, true, false, IsTrue, refl, ◌+◌, ◌-◌, ◌≤◌, max, arith}
use Rattle.ppd_ast.specs.Uses.{depth_of}
use Rattle.ppd_ast.specs.Term.{Term, const, local, local_at, shared, shared_at, neg, not, two, and, or, term}
use Rattle.ppd_ast.proofs.Deciding.{at_leaf, at_element, at_single, at_pair}
use Rattle.test_valid.proofs.uses.+is_within_depth.Goals as goal

deep : (u : Term) → 1 ≤ depth_of u
deep (const v) = omega arith
deep (local c) = omega arith
deep (local_at base len i) = omega arith
deep (shared c) = omega arith
deep (shared_at base len i) = omega arith
deep (neg a) = omega arith
deep (not a) = omega arith
deep (two op a b) = omega arith
deep (and a b) = omega arith
deep (or a b) = omega arith

-- one node above a tree that is n deep, and above two
deeper : (depth n : ℕ) (r : Bool) → (depth ≡ 0 → ⊥) → IsTrue r ↔ (n ≤ depth - 1) → IsTrue r ↔ (1 + n ≤ depth)
deeper depth n r some f = (λ h. let k : n ≤ depth - 1 = f.0 h in omega arith, λ h. f.1 (omega arith))

deeper_pair : (depth m n : ℕ) (q r : Bool) → (depth ≡ 0 → ⊥) → q ≡ true → IsTrue q ↔ (m ≤ depth - 1) → IsTrue r ↔ (n ≤ depth - 1) → IsTrue r ↔ (1 + max m n ≤ depth)
deeper_pair depth m n q r some is f g =
    let left : m ≤ depth - 1 = f.0 is in
    (λ h. let right : n ≤ depth - 1 = g.0 h in omega arith, λ h. g.1 (omega arith))

deeper_first : (depth m n : ℕ) (q : Bool) → (depth ≡ 0 → ⊥) → q ≡ false → IsTrue q ↔ (m ≤ depth - 1) → IsTrue q ↔ (1 + max m n ≤ depth)
deeper_first depth m n q some is f = (λ h. absurd (let no : ⊥ = cc in no), λ h. f.1 (omega arith))

leaf : (depth : ℕ) → (depth ≡ 0 → ⊥) → IsTrue true ↔ (1 ≤ depth)
leaf depth some = (λ h. omega arith, λ h. refl)

pub returns-then-depth-eq0 : goal.returns-then-depth-eq0
returns-then-depth-eq0 t c =
    let h : 1 ≤ depth_of (term c.args.exprs.now c.args.number) = deep (term c.args.exprs.now c.args.number) in
    (λ e. absurd (let no : ⊥ = cc in no), λ e. absurd (omega (arith, h, e)))

pub returns-in-Const : goal.returns-in-Const
returns-in-Const t c =
    let l = leaf c.args.depth c.if-depth-eq0.false in
    at_leaf (λ u. IsTrue true ↔ (depth_of u ≤ c.args.depth)) c.args.exprs.now c.args.number _ c.requires.ordered c.requires.there c.in-Const.is (λ v. l) (λ n. l) (λ n. l)

pub returns-then-is_within_depth : goal.returns-then-is_within_depth
returns-then-is_within_depth t c =
    let l = deeper_pair c.args.depth _ _ c.is_within_depth.result c.is_within_depth-then-is_within_depth.result c.if-depth-eq0.false c.if-is_within_depth.true c.is_within_depth.ensures c.is_within_depth-then-is_within_depth.ensures in
    at_pair (λ u. IsTrue c.is_within_depth-then-is_within_depth.result ↔ (depth_of u ≤ c.args.depth)) c.args.exprs.now c.args.number _ _ _ c.requires.ordered c.requires.there c.in-Two.is (λ op. l) l l

pub returns-else-is_within_depth : goal.returns-else-is_within_depth
returns-else-is_within_depth t c =
    let l = deeper_first c.args.depth _ (depth_of (term c.args.exprs.now c.in-Two.b)) c.is_within_depth.result c.if-depth-eq0.false c.if-is_within_depth.false c.is_within_depth.ensures in
    at_pair (λ u. IsTrue c.is_within_depth.result ↔ (depth_of u ≤ c.args.depth)) c.args.exprs.now c.args.number _ _ _ c.requires.ordered c.requires.there c.in-Two.is (λ op. l) l l

pub returns-in-Neg : goal.returns-in-Neg
returns-in-Neg t c =
    let l = deeper c.args.depth _ c.is_within_depth-in-Neg.result c.if-depth-eq0.false c.is_within_depth-in-Neg.ensures in
    at_single (λ u. IsTrue c.is_within_depth-in-Neg.result ↔ (depth_of u ≤ c.args.depth)) c.args.exprs.now c.args.number _ _ c.requires.ordered c.requires.there c.in-Neg.is l l

pub returns-in-LocalAt : goal.returns-in-LocalAt
returns-in-LocalAt t c =
    let l = deeper c.args.depth _ c.is_within_depth-in-LocalAt.result c.if-depth-eq0.false c.is_within_depth-in-LocalAt.ensures in
    at_element (λ u. IsTrue c.is_within_depth-in-LocalAt.result ↔ (depth_of u ≤ c.args.depth)) c.args.exprs.now c.args.number _ _ c.requires.ordered c.requires.there c.in-LocalAt.is (λ b n. l) (λ b n. l)
