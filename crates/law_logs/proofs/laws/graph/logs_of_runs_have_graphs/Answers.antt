use Rattle.law_logs.proofs.Graph.Ordered.{ordered, refused}
use Rattle.law_logs.proofs.laws.graph.logs_of_runs_have_graphs.Goals as goal

pub returns-clause-ordered : goal.returns-clause-ordered
returns-clause-ordered c = ordered

pub returns-clause-refused : goal.returns-clause-refused
returns-clause-refused c = refused
