use Rattle.ppd_flow.proofs.OfRuns.{answers_of_runs}
use Rattle.ppd_flow.proofs.laws.answers_are_of_runs.Goals as goal

pub returns : goal.returns
returns c = answers_of_runs c.replays_are_seen.ensures c.edges_are_found.ensures
