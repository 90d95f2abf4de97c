use Rattle.std.proofs.Common.{◌≡◌, take, map}
use Rattle.ppd_blocks.specs.Blocks.{filled}
use Rattle.ppd_blocks.proofs.blocks.fill.Given as goal

abbrev pub invariant-loop-block : goal.invariant-loop-block
invariant-loop-block l = l.blocks ≡ map (filled l.program) (take l.block-index l.bare)
