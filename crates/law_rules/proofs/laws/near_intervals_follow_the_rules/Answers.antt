use Rattle.law_rules.proofs.Nearing.{near_by_rules}
use Rattle.law_rules.proofs.laws.near_intervals_follow_the_rules.Goals as goal

pub returns : goal.returns
returns c = near_by_rules
