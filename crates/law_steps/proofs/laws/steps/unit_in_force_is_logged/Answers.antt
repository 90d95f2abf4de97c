use Rattle.law_steps.proofs.Units.Logged.{last_of_log}
use Rattle.law_steps.proofs.laws.steps.unit_in_force_is_logged.Goals as goal

pub returns : goal.returns
returns c = last_of_log
