use Rattle.ppd_top.proofs.Missing.{failures_missing}
use Rattle.ppd_top.proofs.query_laws.missing_writes_are_told.Goals as goal

pub returns : goal.returns
returns c = failures_missing
