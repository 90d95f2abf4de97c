use Rattle.law_flow.proofs.laws.edges.last_writes_are_found.Goals as goal
use Rattle.law_flow.proofs.Edges.Sources.LastOrigins.{last_found}

pub returns : goal.returns
returns c = last_found
