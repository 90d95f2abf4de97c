use Rattle.std.specs.Prelude.{IfErr, None, OnOk}
use Rattle.std.proofs.Common.{◌≡◌, ◌++◌, subst, sym}
use Rattle.ppd_session.specs.Known.{Flow}
use Rattle.ppd_session.specs.Sessions.{IsWhy}
use Rattle.ppd_session.specs.Texts.{flow_text, unfound_flow}
use Rattle.ppd_session.proofs.Flows.{flow_there}
use Rattle.ppd_session.proofs.why.put_told.Goals as goal

pub returns-clause-text : goal.returns-clause-text
returns-clause-text c =
    subst
    (λ (f : Flow). OnOk c.put_flow.result (c.put_flow.new.text.items
    ≡ c.args.text.now.items ++ flow_text c.args.past.now.program.now c.args.past.now.plan.now c.args.item c.args.shown.now f))
    (sym (flow_there c.args.past.now c.args.block.now.process c.args.block.now.interval c.args.item c.args.block.now.items.now
    c.requires.told c.requires.there))
    c.put_flow.ensures.text

pub returns-clause-told : goal.returns-clause-told
returns-clause-told c =
    subst (λ (f : Flow). OnOk c.put_flow.result (unfound_flow f ≡ None))
    (sym (flow_there c.args.past.now c.args.block.now.process c.args.block.now.interval c.args.item c.args.block.now.items.now
    c.requires.told c.requires.there))
    c.put_flow.ensures.told

pub returns-clause-error : goal.returns-clause-error
returns-clause-error c =
    subst (λ (f : Flow). IfErr c.put_flow.result (IsWhy (unfound_flow f)))
    (sym (flow_there c.args.past.now c.args.block.now.process c.args.block.now.interval c.args.item c.args.block.now.items.now
    c.requires.told c.requires.there))
    c.put_flow.ensures.error
