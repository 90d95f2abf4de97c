use Rattle.std.proofs.Common.{◌∙◌, None, Some}
use Rattle.ppd_flow_past.proofs.Edges.Standing.{stands_is}
use Rattle.ppd_flow_past.proofs.ends.stands_in.Goals as goal

pub returns-in-Some : goal.returns-in-Some
returns-in-Some c =
    c.stands_between.ensures
    ∙ stands_is c.args.past.now c.args.process c.args.interval c.requires.index_is c.args.n
    (Some c.in-Some.found) c.in-Some.ensures

pub returns-in-None : goal.returns-in-None
returns-in-None c = stands_is c.args.past.now c.args.process c.args.interval c.requires.index_is c.args.n None
    c.in-None.ensures
