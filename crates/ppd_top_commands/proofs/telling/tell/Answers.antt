use Rattle.ppd_top_commands.proofs.Conversing.{nothing_yet}
use Rattle.ppd_top_commands.proofs.telling.tell.Goals as goal

pub returns-in_default : goal.returns-in_default
returns-in_default g c = nothing_yet _ _ _
