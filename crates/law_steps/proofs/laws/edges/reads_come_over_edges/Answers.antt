use Rattle.law_steps.proofs.StaticEdges.AllReads.{reads_come}
use Rattle.law_steps.proofs.laws.edges.reads_come_over_edges.Goals as goal

pub returns : goal.returns
returns c = reads_come
