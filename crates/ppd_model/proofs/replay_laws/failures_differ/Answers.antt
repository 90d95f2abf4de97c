use Rattle.ppd_model.proofs.replay_laws.failures_differ.Goals as goal
use Rattle.ppd_model.proofs.Failures.{failures_differ}

pub returns : goal.returns
returns c = failures_differ
