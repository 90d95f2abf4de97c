use Rattle.ppd_top_drill.proofs.Read.{drills_read}
use Rattle.ppd_top_drill.proofs.laws.drills_are_read.Goals as goal

pub returns : goal.returns
returns c = drills_read
