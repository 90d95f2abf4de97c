use Rattle.std.proofs.Common.{◌∙◌, ◌++◌, ◌∷◌, [], ap, sym}
use Rattle.ppd_ast.proofs.Those.{those_yes, those_no}
use Rattle.ppd_sets.specs.WorkList.{is_marked}
use Rattle.ppd_sets.proofs.walk.marked.Goals as goal
use Rattle.ppd_sets.proofs.walk.marked.Goals.{then-is_marked+in_ok-push, else-is_marked}

pub loop-index-preserved : goal.loop-index-preserved
loop-index-preserved c =
    elim c.if-is_marked.branch [
      | then-is_marked+in_ok-push w ↦
          w.ids-is ∙ w.in_ok-push.ensures.ok ∙ ap (λ ids. ids ++ c.loop-index.index ∷ []) c.loop-index.invariant
          ∙ sym (those_yes c.loop-index.index (is_marked c.args.marks.now) w.if-is_marked.true)
      | else-is_marked w ↦
          w.ids-is ∙ c.loop-index.invariant ∙ sym (those_no c.loop-index.index (is_marked c.args.marks.now) w.if-is_marked.false)
    ]
