-- The statements inside one are of its body.
use Rattle.std.proofs.Common.{◌≡◌, ℕ, zero, suc, Option, Some, None, refl, sym, ap, ◌∙◌, subst, inl, inr, true≢false}
use Rattle.std.specs.Prelude.{IsSomeAnd, IsTrue, slice_get}
use Rattle.std.specs.List.{flat_map}
use Rattle.ppd_ast.specs.Order.{inner, preorder}
use Rattle.ppd_ast.proofs.Vocabulary.{inner_at, inner_of}
use Rattle.ppd_ast.specs.Valid.{IsValid}
use Rattle.ppd_ast.specs.declared.program.Program.{Program}
use Rattle.ppd_ast.specs.declared.program.Stmt.{Stmt}
use Rattle.ppd_ast.proofs.ValidLaws.{some_and, valid_stmt}
use Rattle.ppd_ast.specs.Members.{has}
use Rattle.ppd_ast.proofs.Members.{has_cons, flat_gives, all_has}

-- the statement is there and in this body
unfoldable pub InBody : Program → ℕ → ℕ → Type 0
InBody p b t = (y : Stmt) × (slice_get p.stmts t ≡ Some y) × (y.body ≡ b)

child_in : (p : Program) (t c b : ℕ) (o : Option Stmt) → IsValid p → slice_get p.stmts t ≡ o → IsTrue (has (inner_of o) c) → InBody p b t → InBody p b c
unfolding InBody
child_in p t c b None v at h k = absurd (true≢false (sym h))
child_in p t c b (Some x) v at h k =
    let stands = all_has (λ i. IsSomeAnd (slice_get p.stmts i) (λ s. (s.parent ≡ Some t) × (s.body ≡ x.body))) (inner x.kind) c (valid_stmt p t x v at).inside h in
    let y = some_and (λ (s : Stmt). (s.parent ≡ Some t) × (s.body ≡ x.body)) (slice_get p.stmts c) stands in
    let same : Some k.0 ≡ Some x = sym k.1 ∙ at in
    let is : k.0 ≡ x = cc in
    (y.0, y.1, y.2.1 ∙ ap (λ (s : Stmt). s.body) (sym is) ∙ k.2)

pub inside_in : (d : ℕ) (p : Program) (t s b : ℕ) → IsValid p → InBody p b t → IsTrue (has (preorder d p.stmts t) s) → InBody p b s
unfolding preorder
inside_in zero p t s b v k h = absurd (true≢false (sym h))
inside_in (suc d) p t s b v k h =
    elim (has_cons t s (flat_map (preorder d p.stmts) (inner_at p.stmts t)) h) [
      | inl same ↦ subst (InBody p b) same k
      | inr later ↦
          let c = flat_gives (preorder d p.stmts) (inner_at p.stmts t) s later in
          inside_in d p c.0 s b v (child_in p t c.0 b (slice_get p.stmts t) v refl c.1 k) c.2
    ]
