use Rattle.law_rules.proofs.Spelling.{spelled_so}
use Rattle.law_rules.proofs.laws.recordings_are_spelled_so.Goals as goal

pub returns : goal.returns
returns c = spelled_so
