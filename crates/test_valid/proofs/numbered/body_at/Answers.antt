use Rattle.std.proofs.Common.{◌≡◌, true}
use Rattle.ppd_ast.specs.declared.plan.Block.{Block}
use Rattle.ppd_ast.proofs.Vocabulary.{body_kind}
use Rattle.test_valid.proofs.Beginnings.{begins_here, begins_not}
use Rattle.test_valid.proofs.numbered.body_at.Goals as goal

pub returns-then-is_of_body : goal.returns-then-is_of_body
returns-then-is_of_body c =
    begins_here (λ (b : Block). b.kind) c.args.blocks.now c.args.place c.in-Some.block.now (body_kind c.args.number c.args.body.now) c.in-Some.ensures.lookup.3.0 c.in-Some.ensures.lookup.1 (c.is_of_body.ensures.0 c.if-is_of_body.true)

pub returns-else-is_of_body : goal.returns-else-is_of_body
returns-else-is_of_body c =
    begins_not (λ (b : Block). b.kind) c.args.blocks.now c.args.place c.in-Some.block.now (body_kind c.args.number c.args.body.now) c.in-Some.ensures.lookup.3.0 c.in-Some.ensures.lookup.1 (λ e.
    let yes : c.is_of_body.result ≡ true = c.is_of_body.ensures.1 e in
    cc)
