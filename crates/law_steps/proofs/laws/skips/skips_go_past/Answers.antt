use Rattle.law_steps.proofs.Skips.Whole.{skips_go_past}
use Rattle.law_steps.proofs.laws.skips.skips_go_past.Goals as goal

pub returns : goal.returns
returns c = skips_go_past
