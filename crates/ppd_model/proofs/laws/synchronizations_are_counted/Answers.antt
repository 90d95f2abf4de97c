use Rattle.ppd_model.proofs.laws.synchronizations_are_counted.Goals as goal
use Rattle.ppd_model.proofs.Numbers.{are_counted}

pub returns : goal.returns
returns c = are_counted
