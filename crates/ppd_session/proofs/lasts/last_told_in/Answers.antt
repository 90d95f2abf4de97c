use Rattle.ppd_flow_past.specs.PastSetting.{past_setting}
use Rattle.std.proofs.Common.{subst, sym}
use Rattle.ppd_session.specs.Known.{last_by}
use Rattle.ppd_session.specs.Sessions.{IsWhy, unfound}
use Rattle.ppd_session.proofs.LastValues.{last_fails, last_found}
use Rattle.ppd_session.proofs.Replayed.{are_replayed}
use Rattle.ppd_session.proofs.lasts.last_told_in.Goals as goal

pub last_from-requires-clause-items : goal.last_from-requires-clause-items
last_from-requires-clause-items g c = record {
  together = c.requires.past;
  last = c.requires.last;
  replayed = are_replayed c.args.past.now c.requires.uncut c.args.last.edge.process c.args.last.interval c.args.given.items.now c.requires.told;
}

pub returns-in-Ok-clause-value : goal.returns-in-Ok-clause-value
returns-in-Ok-clause-value g c = last_found c.args.past.now c.requires.uncut c.args.cell _ _ c.in-Ok.found c.in-Ok.ensures.found

pub returns-clause-error : goal.returns-clause-error
returns-clause-error g c =
    let past = c.args.past.now in
    subst
    (IsWhy (unfound (last_by (past_setting past) past.logs.now c.args.cell)))
    (sym c.no_items.ensures) (last_fails past c.requires.uncut c.args.cell 0 0 c.in-Err.error c.in-Err.ensures.found)
