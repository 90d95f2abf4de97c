use Rattle.law_steps.proofs.Course.Leading.{steps_lead}
use Rattle.law_steps.proofs.laws.steps.steps_lead.Goals as goal

pub returns : goal.returns
returns c = steps_lead
