use Rattle.law_flow.proofs.Control.Whole.{controls_found}
use Rattle.law_flow.proofs.laws.control.own_controls_are_found.Goals as goal

pub returns : goal.returns
returns c = controls_found
