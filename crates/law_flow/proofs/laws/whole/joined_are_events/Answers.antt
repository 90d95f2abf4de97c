use Rattle.law_flow.proofs.Joining.{joined_events}
use Rattle.law_flow.proofs.laws.whole.joined_are_events.Goals as goal

pub returns : goal.returns
returns c = joined_events
