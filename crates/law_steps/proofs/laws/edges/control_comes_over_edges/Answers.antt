use Rattle.law_steps.proofs.StaticEdges.Control.{control_comes}
use Rattle.law_steps.proofs.laws.edges.control_comes_over_edges.Goals as goal

pub returns : goal.returns
returns c = control_comes
