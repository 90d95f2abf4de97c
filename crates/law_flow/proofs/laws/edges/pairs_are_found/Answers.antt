use Rattle.law_flow.proofs.laws.edges.pairs_are_found.Goals as goal
use Rattle.law_flow.proofs.Edges.PairPlaces.Pairs.{pairs_found}

pub returns : goal.returns
returns c = pairs_found
