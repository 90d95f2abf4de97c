use Rattle.std.proofs.Common.{[], ap, sym, ◌∙◌}
use Rattle.ppd_top_requests.specs.Questions.{asked_of}
use Rattle.ppd_session.specs.Questions.{process_named}
use Rattle.ppd_session.specs.Sessions.{known_by}
use Rattle.ppd_session.specs.Texts.{no_process}
use Rattle.ppd_top.proofs.Replied.{no_process_refuses, none_at_number, refused_reply, told_at_number}
use Rattle.ppd_top.proofs.answering.slice_of_process.Goals as goal

pub returns-in_default : goal.returns-in_default
returns-in_default c =
    refused_reply (known_by c.args.past.now []) (asked_of c.args.asked.now) no_process (no_process_refuses c.args.past.now (asked_of c.args.asked.now) (ap (process_named c.args.past.now.program.now) (sym c.as_bytes.ensures.value) ∙ (sym c.process_named.ensures ∙ c.in_default.is)))
    c.line_of.result c.line_of.ensures.text c.line_of.ensures.error

pub returns-in_default-interval_there : goal.returns-in_default-interval_there
returns-in_default-interval_there c =
    none_at_number c.args.past.now (asked_of c.args.asked.now) c.in-Some.process c.from.result c.interval_there.result c.line_of-in_default-interval_there.result
    (ap (process_named c.args.past.now.program.now) (sym c.as_bytes.ensures.value) ∙ (sym c.process_named.ensures ∙ c.in-Some.is)) c.from.ensures c.in_default-interval_there.is c.interval_there.ensures.known
    c.line_of-in_default-interval_there.ensures.text c.line_of-in_default-interval_there.ensures.error

pub returns : goal.returns
returns c =
    told_at_number c.args.past.now (asked_of c.args.asked.now) c.in-Some.process c.in-Some-interval_there.interval c.from.result c.interval_there.result c.slice_text.result
    (ap (process_named c.args.past.now.program.now) (sym c.as_bytes.ensures.value) ∙ (sym c.process_named.ensures ∙ c.in-Some.is)) c.from.ensures c.in-Some-interval_there.is c.in-Some-interval_there.ensures.there.0 c.interval_there.ensures.known
    c.slice_text.ensures
