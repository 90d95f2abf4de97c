use Rattle.ppd_blocks.proofs.Paths.{cells_are_shared}
use Rattle.ppd_blocks.proofs.laws.cells_are_shared.Goals as goal

pub returns : goal.returns
returns c = cells_are_shared
