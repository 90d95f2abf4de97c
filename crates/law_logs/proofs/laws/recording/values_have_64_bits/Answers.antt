use Rattle.law_logs.proofs.laws.recording.values_have_64_bits.Goals as goal
use Rattle.law_logs.proofs.Recording.Values.Worlds.{values_have}

pub returns : goal.returns
returns c = values_have
