use Rattle.law_steps.proofs.StaticEdges.SharedCells.SharedReads.{shared_reads_come}
use Rattle.law_steps.proofs.laws.edges.shared_reads_come_over_edges.Goals as goal

pub returns : goal.returns
returns c = shared_reads_come
