use Rattle.ppd_race.proofs.OfRuns.{of_runs}
use Rattle.ppd_race.proofs.laws.run_races_are_of_logs.Goals as goal

pub returns : goal.returns
returns c = of_runs
