use Rattle.ppd_session.proofs.Knowing.{logs_are_known}
use Rattle.ppd_session.proofs.laws.logs_are_known.Goals as goal

pub returns : goal.returns
returns c = logs_are_known
