use Rattle.ppd_top.proofs.Clauses.{is_outcome}
use Rattle.ppd_top.proofs.call.ppd.Goals as goal

pub returns-clause-outcome : goal.returns-clause-outcome
returns-clause-outcome g c = is_outcome c.answers_are_of_runs.ensures _ c.answer.ensures.comes
