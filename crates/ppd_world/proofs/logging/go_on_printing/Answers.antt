use Rattle.std.proofs.Common.{arith}
use Rattle.std.proofs.lemmas.Grind.{common_steps}
use Rattle.ppd_world.proofs.logging.go_on_printing.Goals as goal
use Rattle.ppd_model.proofs.Lists.{set_is_change}

pub returns-clause-ok : goal.returns-clause-ok
returns-clause-ok c = grind (arith, common_steps, set_is_change)
