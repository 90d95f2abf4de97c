use Rattle.ppd_model.proofs.laws.extents_match.Goals as goal
use Rattle.ppd_model.proofs.Extents.{extents_match}
use Rattle.ppd_model.proofs.LoggedSpans.{intervals_of_logs}

pub returns-clause-matched : goal.returns-clause-matched
returns-clause-matched c = extents_match

pub returns-clause-steps : goal.returns-clause-steps
returns-clause-steps c = intervals_of_logs
