use Rattle.ppd_flow_past.proofs.Runs.{replays_are_seen}
use Rattle.ppd_flow_past.proofs.laws.replays_are_seen.Goals as goal

pub returns : goal.returns
returns c = replays_are_seen
