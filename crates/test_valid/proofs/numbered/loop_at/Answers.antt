use Rattle.std.proofs.Common.{◌≡◌, true}
use Rattle.ppd_ast.specs.declared.plan.Block.{Block}
use Rattle.ppd_ast.specs.declared.plan.BlockKind.TheVariants.{Loop}
use Rattle.test_valid.proofs.Beginnings.{begins_here, begins_not}
use Rattle.test_valid.proofs.numbered.loop_at.Goals as goal

pub returns-then-is_same_kind : goal.returns-then-is_same_kind
returns-then-is_same_kind c =
    begins_here (λ (b : Block). b.kind) c.args.blocks.now c.args.place c.in-Some.block.now (Loop c.args.number) c.in-Some.ensures.lookup.3.0 c.in-Some.ensures.lookup.1 (c.is_same_kind.ensures.0 c.if-is_same_kind.true)

pub returns-else-is_same_kind : goal.returns-else-is_same_kind
returns-else-is_same_kind c =
    begins_not (λ (b : Block). b.kind) c.args.blocks.now c.args.place c.in-Some.block.now (Loop c.args.number) c.in-Some.ensures.lookup.3.0 c.in-Some.ensures.lookup.1 (λ e.
    let yes : c.is_same_kind.result ≡ true = c.is_same_kind.ensures.1 e in
    cc)
