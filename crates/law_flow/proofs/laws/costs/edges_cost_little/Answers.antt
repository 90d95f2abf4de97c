use Rattle.law_flow.proofs.Costs.EdgeCosts.{edges_cheap}
use Rattle.law_flow.proofs.laws.costs.edges_cost_little.Goals as goal

pub returns : goal.returns
returns c = edges_cheap
