use Rattle.law_clean.proofs.ReadsAnswered.{unraced_reads}
use Rattle.law_clean.proofs.laws.unraced_reads_are_in_force.Goals as goal

pub returns : goal.returns
returns c = unraced_reads
