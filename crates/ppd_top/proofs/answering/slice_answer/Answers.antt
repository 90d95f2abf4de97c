use Rattle.std.proofs.Common.{◌∙◌}
use Rattle.ppd_session.specs.Sessions.{known_by}
use Rattle.ppd_top_requests.specs.Questions.{asked_of}
use Rattle.ppd_top_requests.specs.Questions.Query.{Slice}
use Rattle.ppd_top.proofs.RecordedQuery.{known_is, slice_told}
use Rattle.ppd_top.proofs.answering.slice_answer.Goals as goal

pub returns : goal.returns
returns g c =
    c.unscheduled.ensures c.args.recalled.now.recording (Slice (asked_of c.args.asked.now))
    (slice_told c.args.recalled.now.recording (asked_of c.args.asked.now) (known_by c.past_of.result c.as_slice.result.now)
    (known_is c.args.recalled.now.recording c.past_of.result c.as_slice.result.now c.past_of.ensures.program c.past_of.ensures.plan c.past_of.ensures.logs c.past_of.ensures.budget (c.as_slice.ensures ∙ c.in_ok-races.ensures.races))
    c.slice_unless_raced-text.result c.slice_unless_raced-text.ensures)
