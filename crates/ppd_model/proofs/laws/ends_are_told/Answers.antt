use Rattle.ppd_model.proofs.laws.ends_are_told.Goals as goal
use Rattle.ppd_model.proofs.Ends.{ends_told}

pub returns : goal.returns
returns c = ends_told
