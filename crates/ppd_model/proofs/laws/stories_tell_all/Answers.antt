use Rattle.ppd_model.proofs.laws.stories_tell_all.Goals as goal
use Rattle.ppd_model.proofs.OneHistory.{one_history}

pub returns : goal.returns
returns c = one_history
