use Rattle.std.proofs.Common.{◌≡◌, take}
use Rattle.std.specs.List.{flat_map}
use Rattle.ppd_blocks.specs.Blocks.{loop_in}
use Rattle.ppd_blocks.proofs.blocks.loops_among.Given as goal

abbrev pub invariant-loop-block : goal.invariant-loop-block
invariant-loop-block l = l.ids ≡ flat_map (λ b. loop_in b.kind) (take l.block-index l.blocks)
