use Rattle.std.proofs.Common.{ℕ, ◌<◌, get_or}
use Rattle.ppd_ast.specs.ValidPlan.{IsValidBlock}
use Rattle.ppd_ast.specs.declared.plan.Block.{Block}
use Rattle.test_valid.proofs.valid_plan.are_valid_blocks.Given as goal

abbrev pub invariant-loop-index : goal.invariant-loop-index
invariant-loop-index l = (k : ℕ) (d : Block) → k < l.index → IsValidBlock l.program (get_or l.blocks k d)
