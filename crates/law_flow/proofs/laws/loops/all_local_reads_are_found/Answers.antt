use Rattle.law_flow.proofs.Locals.LocalReads.{all_reads_found}
use Rattle.law_flow.proofs.laws.loops.all_local_reads_are_found.Goals as goal

pub returns : goal.returns
returns c = all_reads_found
