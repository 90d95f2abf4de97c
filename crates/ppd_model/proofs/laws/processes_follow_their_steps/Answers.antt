use Rattle.ppd_model.proofs.laws.processes_follow_their_steps.Goals as goal
use Rattle.ppd_model.proofs.States.{follow}

pub returns : goal.returns
returns c = follow
