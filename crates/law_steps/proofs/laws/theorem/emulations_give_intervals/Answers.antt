use Rattle.law_steps.proofs.Theorem.Replays.{emulations_give_intervals}
use Rattle.law_steps.proofs.laws.theorem.emulations_give_intervals.Goals as goal

pub returns : goal.returns
returns c = emulations_give_intervals
