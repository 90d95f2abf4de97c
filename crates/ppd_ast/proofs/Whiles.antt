-- Whether a `while` is among those that a statement stands in, and how many statements stand in one.
use Rattle.std.proofs.Common.{◌≡◌, ◌≢◌, ℕ, zero, suc, ◌+◌, ◌-◌, ◌<◌, ◌≤◌, false, List, ◌++◌, length, get_or, take, drop, Option, Some, None, refl, sym, ap, ◌∙◌, arith, length-append}
use Rattle.std.specs.Prelude.{slice_get}
use Rattle.std.specs.List.{flat_map}
use Rattle.std.proofs.lemmas.Grind.{flat_map-append, common_steps}
use Rattle.ppd_ast.specs.declared.program.Stmt.{Stmt}
use Rattle.ppd_ast.specs.Order.{preorder}
use Rattle.ppd_ast.proofs.Vocabulary.{inner_at, while_or}
use Rattle.ppd_ast.specs.Numbered.{in_while}
use Rattle.ppd_ast.proofs.Walks.{flat_more}
use Rattle.ppd_ast.proofs.Countings.{preorder_some}

pub in_while_deep : (depth : ℕ) (stmts : List Stmt) (parent : Option ℕ) → depth ≡ 0 → in_while depth stmts parent ≡ false
unfolding in_while
in_while_deep depth stmts parent e = ap (λ d. in_while d stmts parent) e

pub in_while_top : (depth : ℕ) (stmts : List Stmt) → in_while depth stmts None ≡ false
unfolding in_while
in_while_top zero stmts = refl
in_while_top (suc d) stmts = refl

pub in_while_some : (depth : ℕ) (stmts : List Stmt) (n : ℕ) → depth ≢ 0 → in_while depth stmts (Some n) ≡ while_or (in_while (depth - 1) stmts) (slice_get stmts n)
unfolding in_while
in_while_some zero stmts n h = absurd (h refl)
in_while_some (suc d) stmts n h = let e : d ≡ suc d - 1 = omega arith in ap (λ k. while_or (in_while k stmts) (slice_get stmts n)) e

pub count_more : (stmts : List Stmt) (depth : ℕ) (list : List ℕ) (k : ℕ) → depth ≢ 0 → k < length list
    → length (flat_map (preorder depth stmts) (take (k + 1) list)) ≡ length (flat_map (preorder depth stmts) (take k list)) + suc (length (flat_map (preorder (depth - 1) stmts) (inner_at stmts (get_or list k 0))))
count_more stmts depth list k deep inside =
    ap length (flat_more (preorder depth stmts) list k 0 inside) ∙ length-append (flat_map (preorder depth stmts) (take k list)) (preorder depth stmts (get_or list k 0))
    ∙ ap (λ l. length (flat_map (preorder depth stmts) (take k list)) + length l) (preorder_some depth stmts (get_or list k 0) deep)

pub count_part : (f : ℕ → List ℕ) (list : List ℕ) (k : ℕ) → length (flat_map f (take k list)) ≤ length (flat_map f list)
count_part f list k =
    let cut : take k list ++ drop k list ≡ list = grind (arith, common_steps) in
    let e : length (flat_map f list) ≡ length (flat_map f (take k list)) + length (flat_map f (drop k list)) =
    ap (λ l. length (flat_map f l)) (sym cut) ∙ ap length (flat_map-append f (take k list) (drop k list)) ∙ length-append (flat_map f (take k list)) (flat_map f (drop k list)) in
    omega (arith, e)
