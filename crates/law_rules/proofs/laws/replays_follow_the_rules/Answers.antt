use Rattle.law_rules.proofs.Turning.{replays_follow, turns_follow}
use Rattle.law_rules.proofs.laws.replays_follow_the_rules.Goals as goal

pub returns-clause-turns : goal.returns-clause-turns
returns-clause-turns c = turns_follow

pub returns-clause-replays : goal.returns-clause-replays
returns-clause-replays c = replays_follow
