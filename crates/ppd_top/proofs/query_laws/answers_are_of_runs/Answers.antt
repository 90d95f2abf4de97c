use Rattle.ppd_top.proofs.OfRuns.{answers_of_runs}
use Rattle.ppd_top.proofs.query_laws.answers_are_of_runs.Goals as goal

pub returns : goal.returns
returns c = answers_of_runs c.items_are_whole.ensures
