use Rattle.ppd_model.proofs.laws.schedules_go_by_prefixes.Goals as goal
use Rattle.ppd_model.proofs.Prefixes.{go_by_prefixes}

pub returns : goal.returns
returns c = go_by_prefixes
