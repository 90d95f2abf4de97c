use Rattle.law_flow.proofs.laws.edges.edges_are_found.Goals as goal
use Rattle.law_flow.proofs.Edges.Assembled.{assembled}

pub returns : goal.returns
returns c = assembled
