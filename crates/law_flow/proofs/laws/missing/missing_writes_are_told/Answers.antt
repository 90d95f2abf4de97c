use Rattle.law_flow.proofs.MissingWrites.{missing_writes_are_told}
use Rattle.law_flow.proofs.laws.missing.missing_writes_are_told.Goals as goal

pub returns : goal.returns
returns c = missing_writes_are_told
