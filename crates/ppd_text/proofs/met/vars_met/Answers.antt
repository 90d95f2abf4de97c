use Rattle.std.proofs.Common.{◌∙◌, arith}
use Rattle.ppd_sets.proofs.Meeting.{met_next}
use Rattle.ppd_text.proofs.met.vars_met.Goals as goal
use Rattle.ppd_text.proofs.met.vars_met.Goals.{then-is_met+in_ok-push, else-is_met}

pub loop-number-preserved : goal.loop-number-preserved
loop-number-preserved c =
    let next = met_next c.args.vars.now c.args.cells.now c.loop-number.numbers c.loop-number.number c.index-vars-number.result c.is_met.result (omega arith) c.index-vars-number.is c.is_met.ensures c.loop-number.invariant in
    elim c.if-is_met.branch [
      | then-is_met+in_ok-push w ↦ w.numbers-is ∙ w.in_ok-push.ensures.ok ∙ next.yes w.if-is_met.true
      | else-is_met w ↦ w.numbers-is ∙ next.no w.if-is_met.false
    ]
