use Rattle.law_steps.proofs.Course.Reading.{reads_its_cells}
use Rattle.law_steps.proofs.laws.steps.reads_its_cells.Goals as goal

pub returns : goal.returns
returns c = reads_its_cells
