use Rattle.std.proofs.Common.{◌≡◌, ◌∙◌, ◌<◌, ap, subst, length, get_or, List}
use Rattle.ppd_ast.specs.declared.program.Stmt.{Stmt}
use Rattle.ppd_ast.specs.Valid.{IsValidStmt}
use Rattle.ppd_ast.proofs.Walks.{each_more}
use Rattle.test_valid.proofs.valid.are_valid_stmts.Goals as goal

pub loop-index-preserved : goal.loop-index-preserved
loop-index-preserved c =
    let long : c.loop-index.index < length c.args.program.now.stmts = subst (λ (l : List Stmt). c.loop-index.index < length l) c.as_slice-stmts.ensures c.loop-index-test.true in
    let is : c.index-stmts-index.result ≡ get_or c.args.program.now.stmts c.loop-index.index c.index-stmts-index.result =
    c.index-stmts-index.is ∙ ap (λ (l : List Stmt). get_or l c.loop-index.index c.index-stmts-index.result) c.as_slice-stmts.ensures in
    each_more (IsValidStmt c.args.program.now) c.args.program.now.stmts c.loop-index.index c.index-stmts-index.result c.loop-index.invariant long is (c.is_valid_stmt.ensures.0 c.if-not-is_valid_stmt.false)
