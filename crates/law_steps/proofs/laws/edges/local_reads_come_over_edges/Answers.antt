use Rattle.law_steps.proofs.StaticEdges.OwnCells.LocalReads.{local_reads_come}
use Rattle.law_steps.proofs.laws.edges.local_reads_come_over_edges.Goals as goal

pub returns : goal.returns
returns c = local_reads_come
