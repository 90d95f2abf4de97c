use Rattle.std.proofs.Common.{◌∙◌, ap, subst, sym}
use Rattle.ppd_ast.specs.Members.{has, those}
use Rattle.ppd_ast.specs.declared.limits.TheConstants.{MOST_SHARED_CELLS}
use Rattle.ppd_sets.specs.CellSets.{IsSetBelow}
use Rattle.ppd_sets.proofs.CellSets.Held.{held_set, held_whole}
use Rattle.ppd_sets.proofs.cell_set.CellSet.to_list.Goals as goal

pub returns-clause-list : goal.returns-clause-list
returns-clause-list c = c.in_ok-cells.ensures ∙ c.self.view_is

pub returns-clause-rising : goal.returns-clause-rising
returns-clause-rising c = subst (IsSetBelow MOST_SHARED_CELLS) (sym c.in_ok-cells.ensures) (held_set c.self.inside.words)

pub returns-clause-whole : goal.returns-clause-whole
returns-clause-whole c = c.in_ok-cells.ensures ∙ held_whole c.self.inside.words ∙ ap (λ l. those MOST_SHARED_CELLS (has l)) c.self.view_is
