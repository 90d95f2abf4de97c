use Rattle.law_clean.proofs.FullEdges.{clean_edges_found}
use Rattle.law_clean.proofs.laws.clean_edges_are_found.Goals as goal

pub returns : goal.returns
returns c = clean_edges_found
