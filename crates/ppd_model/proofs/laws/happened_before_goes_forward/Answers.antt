use Rattle.ppd_model.proofs.laws.happened_before_goes_forward.Goals as goal
use Rattle.ppd_model.proofs.Forward.{edges_forward, records_closed}

pub returns-clause-records : goal.returns-clause-records
returns-clause-records c = records_closed

pub returns-clause-edges : goal.returns-clause-edges
returns-clause-edges c = edges_forward
