use Rattle.law_flow.proofs.Places.LeafTells.{leaf_tells}
use Rattle.law_flow.proofs.laws.places.leaf_tells.Goals as goal

pub returns : goal.returns
returns c = leaf_tells
