use Rattle.law_flow.proofs.Costs.LastCosts.{last_cheap}
use Rattle.law_flow.proofs.laws.costs.last_costs_little.Goals as goal

pub returns : goal.returns
returns c = last_cheap
