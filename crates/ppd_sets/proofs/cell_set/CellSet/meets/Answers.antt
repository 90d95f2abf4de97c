use Rattle.std.proofs.Common.{◌∙◌, ap}
use Rattle.ppd_sets.specs.CellSets.{meet, held}
use Rattle.ppd_sets.proofs.cell_set.CellSet.meets.Goals as goal

pub returns : goal.returns
returns c =
    c.do_meet.ensures ∙ ap (λ l. meet l (held c.other.inside.words)) c.self.view_is ∙ ap (meet c.args.self.now) c.other.view_is
