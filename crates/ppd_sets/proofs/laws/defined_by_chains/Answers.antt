use Rattle.ppd_sets.proofs.Chains.{defined_by_chains}
use Rattle.ppd_sets.proofs.laws.defined_by_chains.Goals as goal

pub returns : goal.returns
returns c = defined_by_chains
