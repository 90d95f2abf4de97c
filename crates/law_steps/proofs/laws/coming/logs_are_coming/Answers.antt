use Rattle.law_steps.proofs.Coming.LogsComing.{logs_are_coming}
use Rattle.law_steps.proofs.laws.coming.logs_are_coming.Goals as goal

pub returns : goal.returns
returns c = logs_are_coming
