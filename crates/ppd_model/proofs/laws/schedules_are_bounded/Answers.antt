use Rattle.ppd_model.proofs.laws.schedules_are_bounded.Goals as goal
use Rattle.ppd_model.proofs.Bounded.{bounded}

pub returns : goal.returns
returns c = bounded
