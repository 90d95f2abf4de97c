use Rattle.ppd_model.proofs.laws.steps_cost_what_they_write.Goals as goal
use Rattle.ppd_model.proofs.Costs.{logs_paid, starts_free, steps_cost}

pub returns-clause-steps : goal.returns-clause-steps
returns-clause-steps c = steps_cost

pub returns-clause-start : goal.returns-clause-start
returns-clause-start c = starts_free

pub returns-clause-logs : goal.returns-clause-logs
returns-clause-logs c = logs_paid
