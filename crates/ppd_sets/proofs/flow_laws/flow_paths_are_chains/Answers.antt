use Rattle.ppd_sets.proofs.Paths.{paths_are_chains}
use Rattle.ppd_sets.proofs.flow_laws.flow_paths_are_chains.Goals as goal

pub returns : goal.returns
returns c = paths_are_chains
