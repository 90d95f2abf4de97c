use Rattle.ppd_model.proofs.laws.stories_grow.Goals as goal
use Rattle.ppd_model.proofs.Stories.{stories_are_of_runs, stories_grow}

pub returns-clause-grow : goal.returns-clause-grow
returns-clause-grow c = stories_grow

pub returns-clause-of_runs : goal.returns-clause-of_runs
returns-clause-of_runs c = stories_are_of_runs
