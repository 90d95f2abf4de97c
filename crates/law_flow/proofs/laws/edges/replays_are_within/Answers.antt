use Rattle.law_flow.proofs.laws.edges.replays_are_within.Goals as goal
use Rattle.law_flow.proofs.Edges.Within.{replays_within}

pub returns : goal.returns
returns c = replays_within
