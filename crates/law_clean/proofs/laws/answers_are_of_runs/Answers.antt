use Rattle.law_clean.proofs.Whole.{answers_of_runs}
use Rattle.law_clean.proofs.laws.answers_are_of_runs.Goals as goal

pub returns : goal.returns
returns c = answers_of_runs
