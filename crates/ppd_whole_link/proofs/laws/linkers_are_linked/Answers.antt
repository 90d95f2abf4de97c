use Rattle.ppd_whole_link.proofs.Linkers.{linkers_are}
use Rattle.ppd_whole_link.proofs.laws.linkers_are_linked.Goals as goal

pub returns : goal.returns
returns c = linkers_are
