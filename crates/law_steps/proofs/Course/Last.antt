-- In a valid program nothing follows a statement that ends its body.
use Rattle.std.proofs.Common.{◌≡◌, ℕ, suc, ◌-◌, List, [], ◌∷◌, length, Option, Some, None, refl, sym, subst, ap, ◌∙◌, arith}
use Rattle.std.specs.Prelude.{slice_get}
use Rattle.ppd_ast.specs.declared.program.Body.{Body}
use Rattle.ppd_ast.specs.declared.program.Kind.{Kind}
use Rattle.ppd_ast.specs.declared.program.Kind.TheVariants as K
use Rattle.ppd_ast.specs.declared.program.Program.{Program}
use Rattle.ppd_ast.specs.declared.program.Stmt.{Stmt}
use Rattle.ppd_ast.specs.Valid.{EndsBody, IsEnding, IsValid, last_of}
use Rattle.ppd_ast.proofs.ValidLaws.{stmt_in_body}
use Rattle.ppd_ast.proofs.Vocabulary.{kind_of_stmt}
use Rattle.ppd_ast.specs.declared.limits.TheConstants.{MOST_NESTING}
use Rattle.ppd_sets.specs.Flow.{follow}
use Rattle.ppd_sets.proofs.Depths.{follow_none}
use Rattle.law_steps.specs.Steps.{EndsAreLast}
use Rattle.law_steps.proofs.Course.Chains.{IsChain, top_chain}
use Rattle.ppd_model.proofs.Changes.{some}
use Rattle.ppd_model.proofs.Parents.{none_some}

chain_last : (p : Program) (xs : List ℕ) (s : ℕ) → IsChain p None xs → last_of xs ≡ Some s → follow p s ≡ None
chain_last p [] s chain last = absurd (none_some last)
chain_last p (x ∷ []) s chain last = subst (λ i. follow p i ≡ None) (some last) chain.0
chain_last p (x ∷ y ∷ xs) s chain last =
    let shorter : length (x ∷ y ∷ xs) - 1 ≡ suc (length (y ∷ xs) - 1) = omega arith in
    chain_last p (y ∷ xs) s chain.2 (sym (ap (λ i. slice_get (x ∷ y ∷ xs) i) shorter) ∙ last)

ends_top : (b : Body) (k : ℕ) (kind : Kind) → IsEnding kind → EndsBody b k kind → last_of b.top ≡ Some k
ends_top b k (K.Return v) ending h = h.2
ends_top b k K.End ending h = h.1
ends_top b k (K.Set t e) ending h = absurd ending
ends_top b k (K.Zero base len) ending h = absurd ending
ends_top b k (K.If e first second) ending h = absurd ending
ends_top b k (K.While e body) ending h = absurd ending
ends_top b k (K.Call f args into) ending h = absurd ending
ends_top b k (K.P s) ending h = absurd ending
ends_top b k (K.V s) ending h = absurd ending
ends_top b k (K.Send c e) ending h = absurd ending
ends_top b k (K.Recv c into) ending h = absurd ending
ends_top b k (K.Print e) ending h = absurd ending
ends_top b k (K.Assert e) ending h = absurd ending

last_at : (p : Program) (s : ℕ) (o : Option Stmt) → IsValid p → slice_get p.stmts s ≡ o → IsEnding (kind_of_stmt o) → follow p s ≡ None
last_at p s None v at ending = follow_none MOST_NESTING p s (λ z. cc) at
last_at p s (Some x) v at ending =
    let own = stmt_in_body p s x v at in
    chain_last p own.0.top s (top_chain p x.body own.0 v own.1) (ends_top own.0 s x.kind ending own.2.ending)

pub ends_are_last : EndsAreLast
ends_are_last p s v ending = last_at p s (slice_get p.stmts s) v refl ending
