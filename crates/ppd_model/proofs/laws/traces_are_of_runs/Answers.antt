use Rattle.ppd_model.proofs.laws.traces_are_of_runs.Goals as goal
use Rattle.ppd_model.proofs.Earlier.{name_earlier, tell_runs}

pub returns-clause-run : goal.returns-clause-run
returns-clause-run c = tell_runs

pub returns-clause-earlier : goal.returns-clause-earlier
returns-clause-earlier c = name_earlier
