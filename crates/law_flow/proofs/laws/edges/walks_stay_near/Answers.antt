use Rattle.law_flow.proofs.laws.edges.walks_stay_near.Goals as goal
use Rattle.law_flow.proofs.Edges.Near.Nearby.{walks_near}

pub returns : goal.returns
returns c = walks_near
