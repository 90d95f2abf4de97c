use Rattle.ppd_model.proofs.replay_laws.replays_count_their_steps.Goals as goal
use Rattle.ppd_model.proofs.Turns.{turns_are_steps}

pub returns : goal.returns
returns c = turns_are_steps
