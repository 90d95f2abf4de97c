use Rattle.ppd_session.proofs.Answered.{run_answered}
use Rattle.ppd_session.proofs.laws.runs_are_answered.Goals as goal

pub returns : goal.returns
returns c = run_answered
