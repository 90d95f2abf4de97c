use Rattle.ppd_deps.proofs.Added.{adds_then}
use Rattle.ppd_deps.proofs.adding.fill.Goals as goal

pub returns : goal.returns
returns c = adds_then _ _ _ _ _ c.in_ok-add_data.ensures c.in_ok-add_control.ensures
