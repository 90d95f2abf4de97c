use Rattle.ppd_model.proofs.laws.items_are_whole.Goals as goal
use Rattle.ppd_model.proofs.Items.{items_whole}

pub returns : goal.returns
returns c = items_whole
