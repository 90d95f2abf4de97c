use Rattle.ppd_model.proofs.laws.logs_record_runs.Goals as goal
use Rattle.ppd_model.proofs.AccessSets.{accesses_there, cells_are}
use Rattle.ppd_model.proofs.RecordedSets.{record_sets}
use Rattle.ppd_model.proofs.RecordedSyncs.{record_syncs}

pub returns-clause-synchronizations : goal.returns-clause-synchronizations
returns-clause-synchronizations c = record_syncs

pub returns-clause-accesses : goal.returns-clause-accesses
returns-clause-accesses c = record_sets

pub returns-clause-cells : goal.returns-clause-cells
returns-clause-cells c = cells_are

pub returns-clause-there : goal.returns-clause-there
returns-clause-there c = accesses_there
