use Rattle.ppd_deps.proofs.Invented.{none_invented}
use Rattle.ppd_deps.proofs.laws.no_edge_is_invented.Goals as goal

pub returns : goal.returns
returns c = none_invented
