use Rattle.std.proofs.Common.{◌≡◌, ◌∙◌, ap, sym, List, ℕ}
use Rattle.std.specs.List.{flat_map}
use Rattle.ppd_ast.specs.Order.{preorder}
use Rattle.test_valid.specs.Counting.{counted}
use Rattle.ppd_ast.specs.declared.program.Stmt.{Stmt}
use Rattle.test_valid.proofs.Countings.{counted_is_range, range_is_counted, is_that, that_is}
use Rattle.test_valid.proofs.valid.is_body_in_order.Goals as goal
use Rattle.ppd_ast.specs.declared.limits.TheConstants.{MOST_NESTING}

pub returns : goal.returns
returns c =
    let order : List Stmt → List ℕ → List ℕ = λ ss l. flat_map (preorder MOST_NESTING ss) l in
    let list : List ℕ = order c.args.program.now.stmts c.args.body.now.top in
    let same : c.counted_in.result ≡ counted list c.args.body.now.first =
    c.counted_in.ensures ∙ ap (λ (ss : List Stmt). counted (order ss c.as_slice.result.now) c.args.body.now.first) c.as_slice-stmts.ensures
    ∙ ap (λ (l : List ℕ). counted (order c.args.program.now.stmts l) c.args.body.now.first) c.as_slice.ensures in (
      λ e. (counted_is_range list c.args.body.now.first c.args.body.now.end (sym same ∙ is_that c.counted_in.result c.args.body.now.end (sym c.eq.ensures ∙ e))).1,
      λ e. c.eq.ensures ∙ that_is c.counted_in.result c.args.body.now.end (same ∙ range_is_counted list c.args.body.now.first c.args.body.now.end c.requires e),
    )
