use Rattle.law_logs.proofs.laws.recording.constants_have_64_bits.Goals as goal
use Rattle.law_logs.proofs.Recording.Constants.Coded.{constants_fit}

pub returns : goal.returns
returns c = constants_fit
