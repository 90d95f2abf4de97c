use Rattle.ppd_model.proofs.laws.steps_change_their_own.Goals as goal
use Rattle.ppd_model.proofs.Changed.{changed}

pub returns : goal.returns
returns c = changed
