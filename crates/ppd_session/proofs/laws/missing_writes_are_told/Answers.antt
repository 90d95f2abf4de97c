use Rattle.ppd_session.proofs.Missing.{missing_writes_told}
use Rattle.ppd_session.proofs.laws.missing_writes_are_told.Goals as goal

pub returns : goal.returns
returns c = missing_writes_told
