-- What follows a statement, by one step of its definition.
use Rattle.std.proofs.Common.{◌≡◌, ◌≢◌, ℕ, zero, suc, ◌-◌, Some, None, refl, ap, ◌∙◌, arith}
use Rattle.std.specs.Prelude.{slice_get}
use Rattle.ppd_ast.specs.declared.program.Stmt.{Stmt}
use Rattle.ppd_ast.specs.declared.program.Program.{Program}
use Rattle.ppd_ast.specs.Lookups.{kind_of, body_numbered}
use Rattle.ppd_sets.specs.Flow.{follow_at, follow_under, follow_within, next_in}
use Rattle.ppd_sets.proofs.FlowWords.{follow_of}

pub follow_deep : (depth : ℕ) (p : Program) (s : ℕ) → depth ≡ 0 → follow_at depth p s ≡ None
unfolding follow_at
follow_deep depth p s e = ap (λ d. follow_at d p s) e

step : (depth : ℕ) (p : Program) (s : ℕ) → depth ≢ 0 → follow_at depth p s ≡ follow_of p (follow_at (depth - 1) p) s (slice_get p.stmts s)
unfolding follow_at
step zero p s h = absurd (h refl)
step (suc d) p s h = let e : d ≡ suc d - 1 = omega arith in ap (λ k. follow_of p (follow_at k p) s (slice_get p.stmts s)) e

pub follow_none : (depth : ℕ) (p : Program) (s : ℕ) → depth ≢ 0 → slice_get p.stmts s ≡ None → follow_at depth p s ≡ None
follow_none depth p s h at = step depth p s h ∙ ap (follow_of p (follow_at (depth - 1) p) s) at

pub follow_top : (depth : ℕ) (p : Program) (s : ℕ) (x : Stmt) → depth ≢ 0 → slice_get p.stmts s ≡ Some x → x.parent ≡ None → follow_at depth p s ≡ next_in (body_numbered p x.body).top s None
follow_top depth p s x h at top =
    step depth p s h ∙ ap (follow_of p (follow_at (depth - 1) p) s) at ∙ ap (follow_under p (follow_at (depth - 1) p) x.body s) top

pub follow_some : (depth : ℕ) (p : Program) (s q : ℕ) (x : Stmt) → depth ≢ 0 → slice_get p.stmts s ≡ Some x → x.parent ≡ Some q → follow_at depth p s ≡ follow_within q (kind_of p q) s (follow_at (depth - 1) p q)
follow_some depth p s q x h at under =
    step depth p s h ∙ ap (follow_of p (follow_at (depth - 1) p) s) at ∙ ap (follow_under p (follow_at (depth - 1) p) x.body s) under
