use Rattle.law_steps.proofs.InForce.Answered.{reads_are_in_force}
use Rattle.law_steps.proofs.laws.in_force.reads_are_in_force.Goals as goal

pub returns : goal.returns
returns c = reads_are_in_force
