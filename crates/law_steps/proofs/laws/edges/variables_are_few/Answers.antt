use Rattle.law_steps.proofs.StaticEdges.Few.{variables_few}
use Rattle.law_steps.proofs.laws.edges.variables_are_few.Goals as goal

pub returns : goal.returns
returns c = variables_few
