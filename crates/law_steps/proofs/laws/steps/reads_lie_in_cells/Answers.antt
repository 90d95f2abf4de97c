use Rattle.law_steps.proofs.Units.Reading.{reads_lie}
use Rattle.law_steps.proofs.laws.steps.reads_lie_in_cells.Goals as goal

pub returns : goal.returns
returns c = reads_lie
