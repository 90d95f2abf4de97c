use Rattle.law_logs.proofs.Index.Found.{logs_indexed}
use Rattle.law_logs.proofs.laws.index.logs_of_runs_are_indexed.Goals as goal

pub returns : goal.returns
returns c = logs_indexed
