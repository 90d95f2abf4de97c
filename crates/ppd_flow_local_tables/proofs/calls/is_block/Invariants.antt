use Rattle.std.proofs.Common.{◌≡◌, drop, is_some, position}
use Rattle.ppd_ast.specs.declared.plan.BlockKind.TheVariants as block
use Rattle.ppd_sem.specs.Tables.{block_of, same_block}
use Rattle.ppd_flow_local_tables.proofs.calls.is_block.Given as goal

abbrev pub invariant-loop-block : goal.invariant-loop-block
invariant-loop-block l =
    is_some (position (λ b. same_block b.kind (block.Function l.function)) (drop l.block-index l.plan.blocks))
    ≡ is_some (block_of l.plan (block.Function l.function))
