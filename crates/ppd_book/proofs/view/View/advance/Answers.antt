use Rattle.std.proofs.Common.{sym, subst, rules}
use Rattle.ppd_book.specs.Views.{HasMore, Seen}
use Rattle.ppd_book.proofs.Views.{view_advanced}
use Rattle.ppd_book.proofs.view.View.advance.Goals as goal

pub invariant_of-self-2 : goal.invariant_of-self-2
invariant_of-self-2 g c =
    view_advanced g.J.Job.setting c.self.inside.program.now c.self.inside.plan.now _ _ c.self.invariant
    (subst (λ (v : Seen). HasMore g.J.Job.setting.program g.J.Job.setting.plan v) (sym c.self.view_is) c.requires) c.meet.new.proc (c.in_ok-meet.ensures.ok) c.meet.ensures.kept _ c.look-self-inside.ensures

pub branch-meet-requires : goal.branch-meet-requires
branch-meet-requires g c = search rules depth 1 fits 30

pub from_residual-requires : goal.from_residual-requires
from_residual-requires g c = search rules depth 1 fits 30

pub look-self-inside-requires : goal.look-self-inside-requires
look-self-inside-requires g c = search rules depth 1 fits 30

pub meet-requires : goal.meet-requires
meet-requires g c = search rules depth 1 fits 30

pub returns : goal.returns
returns g c = search rules depth 1 fits 30

pub returns-in_err-meet : goal.returns-in_err-meet
returns-in_err-meet g c = search rules depth 1 fits 30
