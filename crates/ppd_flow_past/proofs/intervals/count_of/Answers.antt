use Rattle.std.proofs.Common.{◌∙◌}
use Rattle.ppd_flow_past.proofs.Outward.{count_is}
use Rattle.ppd_flow_past.proofs.intervals.count_of.Goals as goal

pub returns : goal.returns
returns c = c.count.ensures ∙ count_is c.args.past.now c.args.process 0 c.requires.cut_index_is
