use Rattle.law_rules.proofs.Lacking.{missing_follows}
use Rattle.law_rules.proofs.laws.missing_follows_the_rules.Goals as goal

pub returns : goal.returns
returns c = missing_follows
