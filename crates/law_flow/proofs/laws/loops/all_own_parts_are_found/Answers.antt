use Rattle.law_flow.proofs.Loops.OwnParts.{own_parts}
use Rattle.law_flow.proofs.laws.loops.all_own_parts_are_found.Goals as goal

pub returns : goal.returns
returns c = own_parts
