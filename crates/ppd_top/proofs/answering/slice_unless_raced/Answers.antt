use Rattle.std.specs.Option.{unwrap_or}
use Rattle.std.proofs.Common.{[], sym}
use Rattle.ppd_session.specs.Sessions.{known_by}
use Rattle.ppd_session.specs.Texts.{races_refusal}
use Rattle.ppd_top_requests.specs.Questions.{asked_of}
use Rattle.ppd_top.proofs.Replied.{races_refuse_slices, refused_reply}
use Rattle.ppd_top.proofs.answering.slice_unless_raced.Goals as goal

pub returns-then-not-is_empty : goal.returns-then-not-is_empty
returns-then-not-is_empty c =
    refused_reply (known_by c.args.past.now c.args.races.now) (asked_of c.args.asked.now) (unwrap_or (races_refusal c.args.races.now) [])
    (races_refuse_slices c.args.past.now (asked_of c.args.asked.now) c.args.races.now (sym c.if-not-is_empty.ensures))
    c.racy.result c.racy.ensures.text c.racy.ensures.error
