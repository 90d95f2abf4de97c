use Rattle.std.proofs.Common.{subst}
use Rattle.ppd_clean.specs.Answers.{Fails, IsFound, answer_by}
use Rattle.ppd_model.specs.declared.entry.Logs.{Logs}
use Rattle.ppd_clean.proofs.cleaning.answered_by_cut.Goals as goal

pub returns : goal.returns
returns g c =
    subst (λ (l : Logs). IsFound (Fails c.args.past.now l) (answer_by c.args.past.now c.args.asked.now l) c.answered.result) c.in_ok-cut.ensures.cut c.answered.ensures
