use Rattle.law_steps.proofs.Course.Last.{ends_are_last}
use Rattle.law_steps.proofs.laws.steps.ends_are_last.Goals as goal

pub returns : goal.returns
returns c = ends_are_last
