use Rattle.std.proofs.Common.{◌∙◌, ◌≤◌, sym, subst, arith}
use Rattle.ppd_ast.specs.declared.limits.TheConstants.{MOST_SHARED_CELLS}
use Rattle.ppd_ast.specs.Cells.{after}
use Rattle.ppd_ast.specs.declared.program.Var.{Var}
use Rattle.ppd_sets.proofs.Meeting.{met_next}
use Rattle.ppd_sets.proofs.rows.vars_in.Goals as goal
use Rattle.ppd_sets.proofs.rows.vars_in.Goals.{then-does_meet+in_ok-push, else-does_meet}

pub does_meet-requires : goal.does_meet-requires
does_meet-requires c = subst (λ (y : Var). after y ≤ MOST_SHARED_CELLS) (sym c.index-vars-number.is) (c.requires c.loop-number.number c.index-vars-number.result (omega arith))

pub loop-number-preserved : goal.loop-number-preserved
loop-number-preserved c =
    let next = met_next c.args.vars.now c.args.set.now c.loop-number.ids c.loop-number.number c.index-vars-number.result c.does_meet.result (omega arith) c.index-vars-number.is c.does_meet.ensures c.loop-number.invariant in
    elim c.if-does_meet.branch [
      | then-does_meet+in_ok-push w ↦ w.ids-is ∙ w.in_ok-push.ensures.ok ∙ next.yes w.if-does_meet.true
      | else-does_meet w ↦ w.ids-is ∙ next.no w.if-does_meet.false
    ]
