use Rattle.ppd_model.proofs.laws.objects_stay.Goals as goal
use Rattle.ppd_model.proofs.Prefixes.{objects_stay}

pub returns : goal.returns
returns c = objects_stay
