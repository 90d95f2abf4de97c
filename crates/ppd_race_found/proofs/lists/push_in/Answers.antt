use Rattle.std.proofs.Common.{arith}
use Rattle.std.proofs.lemmas.Grind.{common_steps}
use Rattle.ppd_race_found.proofs.lists.push_in.Goals as goal
use Rattle.ppd_model.proofs.Lists.{set_is_change}

pub returns : goal.returns
returns g c = grind (arith, common_steps, set_is_change)
