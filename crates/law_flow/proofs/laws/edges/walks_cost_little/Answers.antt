use Rattle.law_flow.proofs.laws.edges.walks_cost_little.Goals as goal
use Rattle.law_flow.proofs.Edges.Near.Cheap.{walks_cheap}

pub returns : goal.returns
returns c = walks_cheap
