use Rattle.std.proofs.Common.{ap, subst, sym, ◌∙◌}
use Rattle.std.specs.Prelude.{is_some, nat_lt, length, get_or, []}
use Rattle.ppd_ast.specs.declared.program.Program.{Program}
use Rattle.ppd_session.specs.Questions.{process_named}
use Rattle.ppd_codec_runs.specs.Recordings.{known_of}
use Rattle.ppd_top_requests.specs.Questions.{asked_of}
use Rattle.ppd_top.specs.Replies.{IsCleanItem}
use Rattle.ppd_top.proofs.CleanTold.{item_reply, no_block_told, no_process_told, there_as}
use Rattle.ppd_top.proofs.cleans.clean_of_process.Goals as goal

pub returns-in_default : goal.returns-in_default
returns-in_default c =
    no_process_told c.args.recalled.now.recording (asked_of c.args.asked.now)
    (ap (λ (p : Program). process_named p c.args.asked.now.process.now) (sym c.past_of-past.ensures.program)
    ∙ (ap (process_named c.past_of-past.result.program.now) (sym c.as_bytes.ensures.value) ∙ (sym c.process_named.ensures ∙ c.in_default.is)))
    c.line_of.result c.line_of.ensures.text c.line_of.ensures.error

pub returns-in_default-interval_there : goal.returns-in_default-interval_there
returns-in_default-interval_there c =
    no_block_told c.args.recalled.now.recording (asked_of c.args.asked.now) c.in-Some.process
    (ap (λ (p : Program). process_named p c.args.asked.now.process.now) (sym c.past_of-past.ensures.program)
    ∙ (ap (process_named c.past_of-past.result.program.now) (sym c.as_bytes.ensures.value) ∙ (sym c.process_named.ensures ∙ c.in-Some.is)))
    (ap (λ i. nat_lt i (length (get_or (known_of c.args.recalled.now.recording).intervals c.in-Some.process []))) (sym c.from.ensures)
    ∙ (sym (there_as c.args.recalled.now.recording c.past_of-past.result c.past_of-past.ensures.program c.past_of-past.ensures.plan c.past_of-past.ensures.logs c.past_of-past.ensures.budget c.in-Some.process c.from.result)
    ∙ (sym c.interval_there.ensures.known ∙ ap is_some c.in_default-interval_there.is)))
    c.line_of-in_default-interval_there.result c.line_of-in_default-interval_there.ensures.text c.line_of-in_default-interval_there.ensures.error

pub returns : goal.returns
returns c =
    let number = c.in-Some-interval_there.ensures.there.0 ∙ c.from.ensures in
    item_reply c.args.recalled.now.recording (asked_of c.args.asked.now) c.in-Some.process
    (ap (λ (p : Program). process_named p c.args.asked.now.process.now) (sym c.past_of-past.ensures.program)
    ∙ (ap (process_named c.past_of-past.result.program.now) (sym c.as_bytes.ensures.value) ∙ (sym c.process_named.ensures ∙ c.in-Some.is)))
    (ap (λ i. nat_lt i (length (get_or (known_of c.args.recalled.now.recording).intervals c.in-Some.process []))) (sym c.from.ensures)
    ∙ (sym (there_as c.args.recalled.now.recording c.past_of-past.result c.past_of-past.ensures.program c.past_of-past.ensures.plan c.past_of-past.ensures.logs c.past_of-past.ensures.budget c.in-Some.process c.from.result)
    ∙ (sym c.interval_there.ensures.known ∙ ap is_some c.in-Some-interval_there.is)))
    c.clean_item.result
    (subst (λ i. IsCleanItem c.args.recalled.now.recording c.in-Some.process i c.args.asked.now.item c.clean_item.result) number c.clean_item.ensures)
