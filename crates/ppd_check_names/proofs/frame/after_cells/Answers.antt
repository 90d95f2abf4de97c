use Rattle.std.proofs.Common.{◌∙◌, sym, ap}
use Rattle.ppd_check_names.specs.Frames.{after_cells}
use Rattle.ppd_check_names.proofs.frame.after_cells.Goals as goal

pub returns-in-None : goal.returns-in-None
returns-in-None c = c.saturating_add.ensures ∙ sym (ap (after_cells c.args.cell) c.in-None.is)

pub returns-in-Some : goal.returns-in-Some
returns-in-Some c = c.saturating_add-in-Some.ensures ∙ sym (ap (after_cells c.args.cell) c.in-Some.is)
