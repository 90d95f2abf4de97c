use Rattle.ppd_model.proofs.laws.local_tags_are_last_writes.Goals as goal
use Rattle.ppd_model.proofs.LocalTags.{schedules_tag}

pub returns-clause-schedules : goal.returns-clause-schedules
returns-clause-schedules c = schedules_tag
