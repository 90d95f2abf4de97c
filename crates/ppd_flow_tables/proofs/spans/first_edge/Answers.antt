use Rattle.std.specs.Prelude.{get_or, []}
use Rattle.std.proofs.Common.{◌∙◌, None, Some}
use Rattle.ppd_flow_past.proofs.Edges.Standing.{first_is}
use Rattle.ppd_flow_tables.proofs.spans.first_edge.Goals as goal

pub returns-in-Some : goal.returns-in-Some
returns-in-Some c =
    c.count_at.ensures (get_or c.args.past.now.logs.now.lists c.args.process []) c.requires.counts
    ∙ first_is c.args.past.now c.args.process c.args.interval c.requires.past.index_is (Some c.in-Some.found)
    c.in-Some.ensures

pub returns-in-None : goal.returns-in-None
returns-in-None c = first_is c.args.past.now c.args.process c.args.interval c.requires.past.index_is None
    c.in-None.ensures
