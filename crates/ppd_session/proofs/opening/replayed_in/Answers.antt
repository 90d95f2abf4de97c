use Rattle.std.specs.Prelude.{Ok, Some}
use Rattle.std.proofs.Common.{[], subst, sym}
use Rattle.ppd_session.specs.Sessions.{IsCause, known_by}
use Rattle.ppd_session.specs.Texts.{failure_at}
use Rattle.ppd_session.proofs.Replayed.{causes, tells}
use Rattle.ppd_flow_past.proofs.Found.{found_alone, found_failed}
use Rattle.ppd_session.proofs.opening.replayed_in.Goals as goal

pub returns-in-Ok-clause-items : goal.returns-in-Ok-clause-items
returns-in-Ok-clause-items g c =
    tells c.args.past.now c.requires.uncut c.args.place.process c.args.place.interval c.in-Ok.items _ _ c.requires.past.index_is
    c.requires.there
    (found_alone c.args.past.now c.args.place.process c.args.place.interval (Ok c.in-Ok.items) c.in-Ok.ensures.is)

pub returns-clause-error : goal.returns-clause-error
returns-clause-error g c =
    subst (IsCause (failure_at (known_by c.args.past.now []) (Some c.args.place.process) c.args.place.interval))
    (sym c.no_items.ensures)
    (causes c.args.past.now c.requires.uncut c.args.place.process c.args.place.interval 0 0 c.in-Err.error
    (found_failed c.args.past.now c.args.place.process c.args.place.interval 0 0 _ c.in-Err.error c.in-Err.ensures.is))
