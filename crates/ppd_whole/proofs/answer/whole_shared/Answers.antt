use Rattle.std.proofs.Common.{◌≡◌, ◌∙◌, Ok}
use Rattle.ppd_whole_origins.proofs.Intervals.{items_of_all}
use Rattle.ppd_whole.proofs.answer.whole_shared.Goals as goal

pub parts_of-requires-clause-rows : goal.parts_of-requires-clause-rows
parts_of-requires-clause-rows g c κs within = c.as_slice.ensures ∙ c.in_ok-rows.ensures.1 ∙ items_of_all c.args.past.now c.requires.uncut

pub returns-clause-is : goal.returns-clause-is
returns-clause-is g c = (c.in_ok-rows.ensures.0, c.in_ok-text.ensures ∙ c.in_ok-parts.ensures)

pub returns-clause-gives : goal.returns-clause-gives
returns-clause-gives g c =
    c.wholes_are_of_runs.ensures c.args.past.now (Ok c.in_ok-text.text.items) c.requires.past.program_ok (c.in_ok-rows.ensures.0, c.in_ok-text.ensures ∙ c.in_ok-parts.ensures)
