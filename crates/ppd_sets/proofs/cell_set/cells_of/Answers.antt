use Rattle.std.proofs.Common.{◌∙◌, ap, sym, arith, ◌∷◌, [], ◌++◌}
use Rattle.ppd_ast.proofs.Those.{those_yes, those_no}
use Rattle.ppd_sets.specs.CellSets.{is_held}
use Rattle.ppd_sets.proofs.CellSets.Held.{gathered}
use Rattle.ppd_sets.proofs.cell_set.cells_of.Goals as goal
use Rattle.ppd_sets.proofs.cell_set.cells_of.Goals.{then-is_held+in_ok-push, else-is_held}

pub loop-cell-preserved : goal.loop-cell-preserved
loop-cell-preserved c =
    elim c.if-is_held.branch [
      | then-is_held+in_ok-push w ↦
          w.cells-is ∙ w.in_ok-push.ensures.ok ∙ ap (λ ids. ids ++ c.loop-cell.cell ∷ []) c.loop-cell.invariant
          ∙ sym (those_yes c.loop-cell.cell (is_held c.args.words.now) (sym c.is_held.ensures ∙ w.if-is_held.true))
      | else-is_held w ↦
          w.cells-is ∙ c.loop-cell.invariant ∙ sym (those_no c.loop-cell.cell (is_held c.args.words.now) (sym c.is_held.ensures ∙ w.if-is_held.false))
    ]

pub returns : goal.returns
returns c = gathered c.args.words.now c.loop-cell.cells c.loop-cell.cell (omega arith) c.loop-cell.invariant
