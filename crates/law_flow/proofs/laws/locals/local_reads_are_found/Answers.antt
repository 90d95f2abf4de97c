use Rattle.law_flow.proofs.Locals.LocalReads.{reads_found}
use Rattle.law_flow.proofs.Locals.NoLoops.{without_loops}
use Rattle.law_flow.proofs.laws.locals.local_reads_are_found.Goals as goal

pub returns-clause-reads : goal.returns-clause-reads
returns-clause-reads c = reads_found

pub returns-clause-policies : goal.returns-clause-policies
returns-clause-policies c = without_loops
