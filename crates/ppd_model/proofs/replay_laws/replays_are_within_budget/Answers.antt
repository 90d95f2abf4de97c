use Rattle.ppd_model.proofs.replay_laws.replays_are_within_budget.Goals as goal
use Rattle.ppd_model.proofs.Turns.{turns_suffice, within_budget}

pub returns-clause-steps : goal.returns-clause-steps
returns-clause-steps c = within_budget

pub returns-clause-turns : goal.returns-clause-turns
returns-clause-turns c = turns_suffice
