use Rattle.ppd_model.proofs.laws.intervals_are_of_steps.Goals as goal
use Rattle.ppd_model.proofs.WrittenSpans.{intervals_of_steps}

pub returns : goal.returns
returns c = intervals_of_steps
