use Rattle.ppd_model.proofs.replay_laws.replays_end_by_turns.Goals as goal
use Rattle.ppd_model.proofs.Ending.{replays_end, turns_end}

pub returns-clause-replays : goal.returns-clause-replays
returns-clause-replays c = replays_end

pub returns-clause-turns : goal.returns-clause-turns
returns-clause-turns c = turns_end
