use Rattle.law_steps.proofs.Theorem.Replays.{replays_give_intervals}
use Rattle.law_steps.proofs.laws.theorem.replays_give_intervals.Goals as goal

pub returns : goal.returns
returns c = replays_give_intervals
