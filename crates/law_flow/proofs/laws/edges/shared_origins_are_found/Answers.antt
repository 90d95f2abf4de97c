use Rattle.law_flow.proofs.laws.edges.shared_origins_are_found.Goals as goal
use Rattle.law_flow.proofs.Edges.Sources.ReadOrigins.{shared_origins}

pub returns : goal.returns
returns c = shared_origins
