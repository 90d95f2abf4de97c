use Rattle.law_steps.proofs.OpenBlocks.Stacks.{steps_move}
use Rattle.law_steps.proofs.laws.open_blocks.steps_move_blocks.Goals as goal

pub returns : goal.returns
returns c = steps_move
