use Rattle.ppd_model.proofs.laws.shared_reads_are_found.Goals as goal
use Rattle.ppd_model.proofs.SharedReads.{conflicts_forward, last_greatest, shared_found}

pub returns-clause-conflicts : goal.returns-clause-conflicts
returns-clause-conflicts c = conflicts_forward

pub returns-clause-reads : goal.returns-clause-reads
returns-clause-reads c = shared_found

pub returns-clause-last : goal.returns-clause-last
returns-clause-last c = last_greatest
