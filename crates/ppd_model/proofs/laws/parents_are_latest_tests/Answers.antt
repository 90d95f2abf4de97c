use Rattle.ppd_model.proofs.laws.parents_are_latest_tests.Goals as goal
use Rattle.ppd_model.proofs.LoopRuns.{runs_inside}
use Rattle.ppd_model.proofs.OuterTests.{outers_tested}
use Rattle.ppd_model.proofs.ParentEvents.{parents_found}
use Rattle.ppd_model.proofs.ValidParents.{valid_parents}

pub returns-clause-parents : goal.returns-clause-parents
returns-clause-parents c = parents_found

pub returns-clause-outers : goal.returns-clause-outers
returns-clause-outers c = outers_tested

pub returns-clause-loops : goal.returns-clause-loops
returns-clause-loops c = runs_inside

pub returns-clause-valid : goal.returns-clause-valid
returns-clause-valid c = valid_parents
