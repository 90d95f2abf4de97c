use Rattle.ppd_slice_search.proofs.Levels.{levels_reach}
use Rattle.ppd_slice_search.proofs.laws.levels_are_reach.Goals as goal

pub returns : goal.returns
returns c = levels_reach
