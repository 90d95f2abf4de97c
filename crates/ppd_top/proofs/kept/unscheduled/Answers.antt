use Rattle.std.proofs.Common.{ℕ, List, sym, subst}
use Rattle.ppd_top.specs.Queries.{Gives}
use Rattle.ppd_top.specs.Replies.{IsTextReply}
use Rattle.ppd_top.proofs.kept.unscheduled.Goals as goal

pub returns-in-Ok : goal.returns-in-Ok
returns-in-Ok c = λ r query h.
    subst (λ (s : List ℕ). Gives r query s 0 c.in-Ok.text.items) (sym c.new.ensures) (subst (λ t. IsTextReply r query t) c.in-Ok.is h)

pub returns-in-Err : goal.returns-in-Err
returns-in-Err c = λ r query h. subst (λ t. IsTextReply r query t) c.in-Err.is h
