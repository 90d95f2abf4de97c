use Rattle.std.proofs.Common.{rules}
use Rattle.ppd_book.proofs.Views.{worker_there}
use Rattle.ppd_book.proofs.kept.Kept.commit.Goals as goal

pub is_current-current-requires-clause-there : goal.is_current-current-requires-clause-there
is_current-current-requires-clause-there g c =
    worker_there g.J.Job.setting c.view.inside.program.now c.view.inside.plan.now c.self.inside.world c.self.inside.schedule _ _ c.self.invariant c.view.invariant

pub drop-requires : goal.drop-requires
drop-requires g c = search rules depth 1 fits 30

pub drop-requires-then-not-current : goal.drop-requires-then-not-current
drop-requires-then-not-current g c = search rules depth 1 fits 30

pub is_current-current-requires-clause-unprinted : goal.is_current-current-requires-clause-unprinted
is_current-current-requires-clause-unprinted g c = search rules depth 1 fits 30

pub put_down-requires-clause-reached : goal.put_down-requires-clause-reached
put_down-requires-clause-reached g c = search rules depth 1 fits 30

pub returns-clause-cause : goal.returns-clause-cause
returns-clause-cause g c = search rules depth 1 fits 30

pub returns-clause-same : goal.returns-clause-same
returns-clause-same g c = search rules depth 1 fits 30

pub returns-then-not-current : goal.returns-then-not-current
returns-then-not-current g c = search rules depth 1 fits 30
