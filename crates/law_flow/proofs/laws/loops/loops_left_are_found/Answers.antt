use Rattle.law_flow.proofs.Loops.LoopsLeft.{lefts_found}
use Rattle.law_flow.proofs.laws.loops.loops_left_are_found.Goals as goal

pub returns : goal.returns
returns c = lefts_found
