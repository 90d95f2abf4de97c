use Rattle.std.proofs.Common.{◌∙◌, Err, sym, subst}
use Rattle.ppd_clean.specs.declared.clean_error.CleanError.{CleanError}
use Rattle.ppd_clean.specs.Answers.{FailsFrom, IsFound, answer_by, unless_begun}
use Rattle.ppd_clean.specs.ByOrder.{cut_for}
use Rattle.ppd_clean.proofs.Found.{begins_clean, begins_raced}
use Rattle.ppd_clean.proofs.cleaning.answered_from.Goals as goal

pub returns-then-begins_unclean : goal.returns-then-begins_unclean
returns-then-begins_unclean g c =
    subst (λ (e : CleanError). IsFound (FailsFrom c.args.begun c.args.past.now c.args.asked.now) (unless_begun c.args.begun c.args.asked.now.process c.args.asked.now.first (answer_by c.args.past.now c.args.asked.now (cut_for c.args.past.now c.args.asked.now))) (Err e)) (sym c.unclean.ensures)
    (begins_raced c.args.begun c.args.past.now c.args.asked.now (answer_by c.args.past.now c.args.asked.now (cut_for c.args.past.now c.args.asked.now)) c.args.asked.now.first
    (sym c.begins_unclean.ensures ∙ c.if-begins_unclean.true))

pub returns : goal.returns
returns g c =
    begins_clean c.args.begun c.args.past.now c.args.asked.now (answer_by c.args.past.now c.args.asked.now (cut_for c.args.past.now c.args.asked.now)) c.answered_by_cut.result
    (sym c.begins_unclean.ensures ∙ c.if-begins_unclean.false) c.answered_by_cut.ensures
