use Rattle.law_steps.proofs.laws.steps.policy_steps_cost_what_they_write.Goals as goal
use Rattle.law_steps.proofs.Policies.{policy_logs, policy_steps}

pub returns-clause-steps : goal.returns-clause-steps
returns-clause-steps c = policy_steps

pub returns-clause-logs : goal.returns-clause-logs
returns-clause-logs c = policy_logs
