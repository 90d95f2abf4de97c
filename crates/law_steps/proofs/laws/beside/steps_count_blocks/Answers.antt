use Rattle.law_steps.proofs.Beside.Opens.{counted_step}
use Rattle.law_steps.proofs.laws.beside.steps_count_blocks.Goals as goal

pub returns : goal.returns
returns c = λ program plan s a t ts counting is home running. counted_step program plan counting s a t ts is home running
