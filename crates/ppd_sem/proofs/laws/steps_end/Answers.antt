use Rattle.ppd_sem.proofs.Lawful.{ends}
use Rattle.ppd_sem.proofs.laws.steps_end.Goals as goal

pub returns : goal.returns
returns c = ends
