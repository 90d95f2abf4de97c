-- The order of statements.
use Rattle.std.proofs.Common.{◌≡◌, ◌≢◌, ℕ, zero, suc, ◌-◌, List, [], ◌∷◌, ◌++◌, refl, ap, ◌∙◌, arith}
use Rattle.std.specs.List.{flat_map}
use Rattle.ppd_ast.specs.declared.program.Stmt.{Stmt}
use Rattle.ppd_ast.specs.Order.{preorder}
use Rattle.ppd_ast.proofs.Vocabulary.{inner_at}

pub preorder_none : (depth : ℕ) (stmts : List Stmt) (list : List ℕ) → depth ≡ 0 → flat_map (preorder depth stmts) list ≡ []
unfolding preorder
preorder_none depth stmts [] e = refl
preorder_none depth stmts (i ∷ is) e =
    let here : preorder depth stmts i ≡ [] = ap (λ d. preorder d stmts i) e in
    ap (λ l. l ++ flat_map (preorder depth stmts) is) here ∙ preorder_none depth stmts is e

pub preorder_some : (depth : ℕ) (stmts : List Stmt) (i : ℕ) → depth ≢ 0 → preorder depth stmts i ≡ i ∷ flat_map (preorder (depth - 1) stmts) (inner_at stmts i)
unfolding preorder
preorder_some zero stmts i h = absurd (h refl)
preorder_some (suc d) stmts i h = let e : d ≡ suc d - 1 = omega arith in ap (λ k. i ∷ flat_map (preorder k stmts) (inner_at stmts i)) e
