use Rattle.ppd_sets.proofs.CellSets.Held.{held_none}
use Rattle.ppd_sets.proofs.cell_set.CellSet.new.Goals as goal

pub returns : goal.returns
returns c = held_none
