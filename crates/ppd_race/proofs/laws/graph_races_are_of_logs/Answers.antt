use Rattle.ppd_race.proofs.Alike.{graph_races}
use Rattle.ppd_race.proofs.laws.graph_races_are_of_logs.Goals as goal

pub returns : goal.returns
returns c = graph_races
