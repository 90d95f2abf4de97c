use Rattle.ppd_top.proofs.Ends.{queries_end, runs_are_told}
use Rattle.ppd_top.proofs.query_laws.queries_end.Goals as goal

pub returns-clause-ends : goal.returns-clause-ends
returns-clause-ends c = queries_end

pub returns-clause-runs : goal.returns-clause-runs
returns-clause-runs c = runs_are_told
