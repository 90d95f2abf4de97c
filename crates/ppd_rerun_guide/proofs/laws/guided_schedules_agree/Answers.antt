use Rattle.ppd_rerun_guide.proofs.Ending.{schedules_end}
use Rattle.ppd_rerun_guide.proofs.Guided.{schedules_agree}
use Rattle.ppd_rerun_guide.proofs.laws.guided_schedules_agree.Goals as goal

pub returns-clause-ends : goal.returns-clause-ends
returns-clause-ends c = schedules_end

pub returns-clause-agree : goal.returns-clause-agree
returns-clause-agree c = schedules_agree
