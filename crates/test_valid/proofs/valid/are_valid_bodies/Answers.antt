use Rattle.std.proofs.Common.{◌≡◌, ◌∙◌, ◌<◌, ◌≤◌, ap, subst, sym, length, get_or, List}
use Rattle.ppd_ast.specs.declared.program.Body.{Body}
use Rattle.ppd_ast.specs.Valid.{IsValidBody}
use Rattle.test_valid.proofs.Following.{first_to_end}
use Rattle.ppd_ast.proofs.Walks.{each_more}
use Rattle.test_valid.proofs.valid.are_valid_bodies.Goals as goal

pub loop-index-preserved : goal.loop-index-preserved
loop-index-preserved c =
    let long : c.loop-index.index < length c.args.program.now.bodies = subst (λ (l : List Body). c.loop-index.index < length l) c.as_slice-bodies.ensures c.loop-index-test.true in
    let is : c.index-bodies-index.result ≡ get_or c.args.program.now.bodies c.loop-index.index c.index-bodies-index.result =
    c.index-bodies-index.is ∙ ap (λ (l : List Body). get_or l c.loop-index.index c.index-bodies-index.result) c.as_slice-bodies.ensures in
    each_more (IsValidBody c.args.program.now) c.args.program.now.bodies c.loop-index.index c.index-bodies-index.result c.loop-index.invariant long is (c.is_valid_body.ensures.0 c.if-not-is_valid_body.false)

pub is_valid_body-requires : goal.is_valid_body-requires
is_valid_body-requires c =
    let long : c.loop-index.index < length c.args.program.now.bodies = subst (λ (l : List Body). c.loop-index.index < length l) c.as_slice-bodies.ensures c.loop-index-test.true in
    let is : c.index-bodies-index.result ≡ get_or c.args.program.now.bodies c.loop-index.index c.index-bodies-index.result =
    c.index-bodies-index.is ∙ ap (λ (l : List Body). get_or l c.loop-index.index c.index-bodies-index.result) c.as_slice-bodies.ensures in
    subst (λ (b : Body). b.first ≤ b.end) (sym is) (first_to_end 0 c.args.program.now.bodies (length c.args.program.now.stmts) c.requires.ranges c.loop-index.index c.index-bodies-index.result long)
