use Rattle.law_steps.proofs.Course.Ending.{never_runs_out}
use Rattle.law_steps.proofs.laws.steps.never_runs_out.Goals as goal

pub returns : goal.returns
returns c = never_runs_out
