use Rattle.ppd_clean.proofs.OfRuns.{cleans_of_runs}
use Rattle.ppd_clean.proofs.laws.cleans_are_of_runs.Goals as goal

pub returns : goal.returns
returns c = cleans_of_runs c.answers_are_of_runs.ensures c.run_races_are_of_logs.ensures c.logs_of_runs_have_graphs.ensures.ordered
