-- The rows of calls.
use Rattle.std.proofs.Common.{◌≡◌, ℕ, suc, ◌+◌, ◌-◌, ◌<◌, ◌≤◌, List, [], ◌∷◌, ◌++◌, Option, Some, None, length, map, refl, sym, ap, ◌∙◌, subst, arith, true≢false, inl, inr}
use Rattle.std.specs.Prelude.{IsTrue, slice_get, get_or}
use Rattle.std.specs.List.{flat_map, range_with_len}
use Rattle.ppd_ast.specs.declared.program.Kind.{Kind}
use Rattle.ppd_ast.specs.declared.program.Kind.TheVariants as K
use Rattle.ppd_ast.specs.declared.program.Stmt.{Stmt}
use Rattle.ppd_ast.specs.declared.program.Body.{Body}
use Rattle.ppd_ast.specs.declared.program.Program.{Program}
use Rattle.ppd_ast.specs.Numbered.{numbers_of}
use Rattle.ppd_ast.specs.Valid.{IsValid, IsValidKind, CallsRightly}
use Rattle.ppd_ast.proofs.ValidLaws.{stmt_in_body}
use Rattle.ppd_ast.specs.Members.{has, AreBelow}
use Rattle.ppd_ast.specs.Lookups.{kind_of}
use Rattle.ppd_ast.proofs.Vocabulary.{kind_of_stmt}
use Rattle.ppd_ast.proofs.Members.{has_cons, flat_gives}
use Rattle.ppd_ast.proofs.Those.{counting}
use Rattle.ppd_sets.specs.WorkList.{AreRowsBelow}
use Rattle.ppd_sets.proofs.FlowRows.{row_at, length_rows, map_push}
use Rattle.ppd_sets.proofs.Leading.{row_there}
use Rattle.ppd_sets.specs.Used.{callee, call_rows, stmts_at}
use Rattle.ppd_sets.proofs.Vocabulary.{calls_at, numbers_in}
use Rattle.ppd_sets.proofs.Statements.{flat_range}

-- ---- for the code

pub calls_more : (p : Program) (first k : ℕ) (old new one : List ℕ) → first ≤ k → old ≡ flat_map (λ s. callee (kind_of p s)) (range_with_len first (k - first)) → one ≡ callee (kind_of p k) → new ≡ old ++ one →
    new ≡ flat_map (λ s. callee (kind_of p s)) (range_with_len first (k + 1 - first))
calls_more p first k old new one h before is now =
    now ∙ ap (λ l. l ++ one) before ∙ ap (λ l. flat_map (λ s. callee (kind_of p s)) (range_with_len first (k - first)) ++ l) is ∙ flat_range (λ s. callee (kind_of p s)) first k h

-- what is found of a body is what is said of its number
pub at_body : {X : Type 0} (p : Program) (f : ℕ → List X) (b : ℕ) (body : Body) → slice_get p.bodies b ≡ Some body → flat_map f (stmts_at p b) ≡ flat_map f (numbers_of p.stmts body)
at_body p f b body at = ap (λ (o : Option Body). flat_map f (numbers_in p o)) at

-- one more row
pub map_more : (f : ℕ → List ℕ) (k : ℕ) (rows new : List (List ℕ)) (one : List ℕ) → rows ≡ map f (range_with_len 0 k) → one ≡ f k → new ≡ rows ++ one ∷ [] → new ≡ map f (range_with_len 0 (k + 1))
map_more f k rows new one before is now =
    let on : k + 1 ≡ suc k = omega arith in
    now ∙ ap (λ r. r ++ one ∷ []) before ∙ ap (λ r. map f (range_with_len 0 k) ++ r ∷ []) is
    ∙ sym (ap (λ n. map f (range_with_len 0 n)) on ∙ ap (map f) (counting 0 k k (omega arith)) ∙ map_push f (range_with_len 0 k) k)

-- ---- calls are of functions that are there

callee_below : (p : Program) (k : Kind) (x : ℕ) → p.functions < length p.bodies → CallsRightly p k → IsTrue (has (callee k) x) → x < length p.bodies
callee_below p (K.Call f args into) x few c h = elim (has_cons f x [] h) [ inl e ↦ (let below : f < p.functions = c.0 in omega (arith, e, below)) | inr t ↦ absurd (true≢false (sym t)) ]
callee_below p (K.Set t e) x few c h = absurd (true≢false (sym h))
callee_below p (K.Zero base len) x few c h = absurd (true≢false (sym h))
callee_below p (K.If e first second) x few c h = absurd (true≢false (sym h))
callee_below p (K.While e body) x few c h = absurd (true≢false (sym h))
callee_below p (K.Return v) x few c h = absurd (true≢false (sym h))
callee_below p (K.P s) x few c h = absurd (true≢false (sym h))
callee_below p (K.V s) x few c h = absurd (true≢false (sym h))
callee_below p (K.Send s e) x few c h = absurd (true≢false (sym h))
callee_below p (K.Recv s into) x few c h = absurd (true≢false (sym h))
callee_below p (K.Print e) x few c h = absurd (true≢false (sym h))
callee_below p (K.Assert e) x few c h = absurd (true≢false (sym h))
callee_below p K.End x few c h = absurd (true≢false (sym h))

stmt_below : (p : Program) (s x : ℕ) (o : Option Stmt) → IsValid p → slice_get p.stmts s ≡ o → IsTrue (has (callee (kind_of_stmt o)) x) → x < length p.bodies
stmt_below p s x None v at h = absurd (true≢false (sym h))
stmt_below p s x (Some y) v at h =
    let b = stmt_in_body p s y v at in
    let valid : IsValidKind p b.0 s y.kind = b.2 in
    callee_below p y.kind x v.limits.process valid.call h

calls_below : (p : Program) (b x : ℕ) → IsValid p → IsTrue (has (calls_at p b) x) → x < length p.bodies
calls_below p b x v h = let s = flat_gives (λ s. callee (kind_of p s)) (stmts_at p b) x h in stmt_below p s.0 x (slice_get p.stmts s.0) v refl s.2

pub call_rows_long : (p : Program) → length (call_rows p) ≡ length p.bodies
call_rows_long p = length_rows (calls_at p) 0 (length p.bodies)

pub call_rows_below : (p : Program) → IsValid p → AreRowsBelow (call_rows p)
call_rows_below p v a x h =
    let there : a < length p.bodies = subst (λ n. a < n) (call_rows_long p) (row_there (call_rows p) a x h) in
    let e : 0 + a ≡ a = omega arith in
    let is : get_or (call_rows p) a [] ≡ calls_at p a = row_at (calls_at p) 0 (length p.bodies) a there ∙ ap (calls_at p) e in
    subst (λ n. x < n) (sym (call_rows_long p)) (calls_below p a x v (subst (λ xs. IsTrue (has xs x)) is h))

pub one_below : (n b : ℕ) → b < n → AreBelow n (b ∷ [])
one_below n b l x h = elim (has_cons b x [] h) [ inl e ↦ omega arith | inr t ↦ absurd (true≢false (sym t)) ]
