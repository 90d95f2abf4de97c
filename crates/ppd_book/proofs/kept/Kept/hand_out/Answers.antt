use Rattle.ppd_book.proofs.Processes.{keeps_budget}
use Rattle.ppd_book.proofs.kept.Kept.hand_out.Goals as goal

pub returns-in-Ok-clause-bounded : goal.returns-in-Ok-clause-bounded
returns-in-Ok-clause-bounded g c = keeps_budget c.schedules_are_bounded.ensures g.J.Job.setting c.self.inside.world c.self.inside.schedule c.self.invariant
