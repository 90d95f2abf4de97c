use Rattle.law_clean.proofs.Found.{clean_found}
use Rattle.law_clean.proofs.laws.clean_reads_are_found.Goals as goal

pub returns : goal.returns
returns c = clean_found
