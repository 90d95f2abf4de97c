use Rattle.std.proofs.Common.{arith}
use Rattle.std.proofs.lemmas.Grind.{common_steps}
use Rattle.ppd_model.proofs.Lists.{set_is_change}
use Rattle.ppd_flow_tables.proofs.by_cell.push_in.Goals as goal

pub returns : goal.returns
returns c = grind (arith, common_steps, set_is_change)
