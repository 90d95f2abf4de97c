use Rattle.ppd_model.proofs.laws.tags_are_last_writes.Goals as goal
use Rattle.ppd_model.proofs.Tags.{tags}

pub returns : goal.returns
returns c = tags
