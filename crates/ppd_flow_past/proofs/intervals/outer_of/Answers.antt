use Rattle.std.proofs.Common.{None, Some}
use Rattle.ppd_flow_past.proofs.Outward.{outer_is}
use Rattle.ppd_flow_past.proofs.intervals.outer_of.Goals as goal

pub returns-in-Some : goal.returns-in-Some
returns-in-Some c = outer_is c.args.past.now c.args.process c.args.interval c.requires.cut_index_is
    (Some c.in-Some.found) c.in-Some.ensures

pub returns-in-None : goal.returns-in-None
returns-in-None c = outer_is c.args.past.now c.args.process c.args.interval c.requires.cut_index_is None c.in-None.ensures
