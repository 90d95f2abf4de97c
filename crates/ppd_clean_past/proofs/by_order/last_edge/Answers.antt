use Rattle.ppd_clean_past.proofs.LastEdges.{last_none, last_some}
use Rattle.ppd_clean_past.proofs.by_order.last_edge.Goals as goal

pub returns-then-edges-eq0-clause-is : goal.returns-then-edges-eq0-clause-is
returns-then-edges-eq0-clause-is c =
    last_none c.args.past.now c.requires c.args.process c.edges-edges.result (c.edges-edges.ensures (c.requires.graph_is.few c.args.process)) c.if-edges-eq0.true

pub returns-else-edges-eq0-clause-is : goal.returns-else-edges-eq0-clause-is
returns-else-edges-eq0-clause-is c =
    last_some c.args.past.now c.requires c.args.process c.edges-edges.result (c.edges-edges.ensures (c.requires.graph_is.few c.args.process)) c.if-edges-eq0.false
