use Rattle.std.proofs.Common.{◌∙◌, sym, ap}
use Rattle.ppd_ast.specs.Members.{has}
use Rattle.ppd_sets.proofs.CellSets.Held.{held_at}
use Rattle.ppd_sets.proofs.cell_set.CellSet.contains.Goals as goal

pub returns : goal.returns
returns c = c.is_held.ensures ∙ sym (held_at c.self.inside.words c.args.cell c.requires) ∙ ap (λ xs. has xs c.args.cell) c.self.view_is
