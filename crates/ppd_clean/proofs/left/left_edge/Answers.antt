use Rattle.std.proofs.Common.{◌∙◌, None, Some}
use Rattle.std.proofs.lemmas.Result.{IfOk-weaker}
use Rattle.ppd_clean.proofs.LeftEdges.{left_is}
use Rattle.ppd_clean.proofs.left.left_edge.Goals as goal

pub returns-in-None : goal.returns-in-None
returns-in-None c = left_is c.args.past.now c.args.process c.args.interval c.requires.index_is None c.in-None.ensures

pub returns-in-Some : goal.returns-in-Some
returns-in-Some c =
    IfOk-weaker c.left_at.result _ _ (λ edge h.
    h ∙ left_is c.args.past.now c.args.process c.args.interval c.requires.index_is (Some c.in-Some.found) c.in-Some.ensures) c.left_at.ensures
