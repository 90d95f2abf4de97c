use Rattle.ppd_model.proofs.laws.logs_grow.Goals as goal
use Rattle.ppd_model.proofs.States.{logs_grow}

pub returns : goal.returns
returns c = logs_grow
