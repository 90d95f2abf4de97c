use Rattle.std.proofs.Common.{◌≡◌, ◌∙◌, Ok}
use Rattle.ppd_whole_origins.proofs.Intervals.{items_of_all}
use Rattle.ppd_whole.proofs.in_turn.whole_in.Goals as goal

pub text_in-requires-clause-rows : goal.text_in-requires-clause-rows
text_in-requires-clause-rows g c = c.as_slice.ensures ∙ c.in_ok-rows.ensures.is.1 ∙ items_of_all c.args.past.now c.requires.uncut

pub returns-clause-is : goal.returns-clause-is
returns-clause-is g c = (c.in_ok-rows.ensures.is.0, c.in_ok-text.ensures.text)

pub returns-clause-gives : goal.returns-clause-gives
returns-clause-gives g c =
    c.wholes_are_of_runs.ensures c.args.past.now (Ok c.in_ok-text.text.items) c.requires.past.program_ok (c.in_ok-rows.ensures.is.0, c.in_ok-text.ensures.text)
