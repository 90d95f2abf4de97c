use Rattle.ppd_model.proofs.laws.no_race_means_order.Goals as goal
use Rattle.ppd_model.proofs.RaceFree.{no_race}

pub returns : goal.returns
returns c = no_race
