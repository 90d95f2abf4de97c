use Rattle.ppd_codec_runs.proofs.Same.{refused_or_accepted}
use Rattle.ppd_codec_runs.proofs.laws.refused_or_accepted.Goals as goal

pub returns : goal.returns
returns c = refused_or_accepted
