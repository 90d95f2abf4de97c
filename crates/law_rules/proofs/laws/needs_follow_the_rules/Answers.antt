use Rattle.law_rules.proofs.Needing.{needs_follow}
use Rattle.law_rules.proofs.laws.needs_follow_the_rules.Goals as goal

pub returns : goal.returns
returns c = needs_follow
