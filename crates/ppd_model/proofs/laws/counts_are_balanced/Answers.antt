use Rattle.ppd_model.proofs.laws.counts_are_balanced.Goals as goal
use Rattle.ppd_model.proofs.Balanced.{balanced}

pub returns : goal.returns
returns c = balanced
