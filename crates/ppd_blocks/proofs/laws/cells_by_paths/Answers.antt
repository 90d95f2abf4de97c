use Rattle.ppd_blocks.proofs.Paths.{cells_by_paths}
use Rattle.ppd_blocks.proofs.laws.cells_by_paths.Goals as goal

pub returns : goal.returns
returns c = cells_by_paths
