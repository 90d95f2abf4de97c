use Rattle.ppd_sets.proofs.Chains.{used_by_chains}
use Rattle.ppd_sets.proofs.laws.used_by_chains.Goals as goal

pub returns : goal.returns
returns c = used_by_chains
