use Rattle.ppd_session.proofs.Honest.{known_as}
use Rattle.ppd_session.proofs.laws.logs_tell_runs.Goals as goal

pub returns : goal.returns
returns c = known_as
