use Rattle.law_flow.proofs.Followed.{events_followed}
use Rattle.law_flow.proofs.laws.whole.traces_are_followed.Goals as goal

pub returns : goal.returns
returns c = events_followed
