use Rattle.ppd_flow_tables.proofs.Latest.{edges_rise, found_within, last_is}
use Rattle.ppd_flow_tables.proofs.by_cell.WritingEdges.last_of.Goals as goal

pub last_below-requires : goal.last_below-requires
last_below-requires g c = edges_rise c.args.past.now.graph.now.edges c.args.self.now c.requires.edges c.args.process c.args.cell c.edges_of.result.now c.edges_of.ensures

pub returns-clause-last : goal.returns-clause-last
returns-clause-last g c =
    last_is c.args.past.now.graph.now.edges c.args.self.now c.requires.edges c.args.process c.args.cell c.edges_of.result.now c.limit-below.result _ c.last_below.result c.edges_of.ensures c.limit-below.ensures c.last_below.ensures.last

pub returns-clause-there : goal.returns-clause-there
returns-clause-there g c =
    found_within c.args.past.now.graph.now.edges c.args.self.now c.requires.edges c.args.process c.args.cell c.limit-below.result _ c.edges_of.result.now c.last_below.result c.edges_of.ensures c.limit-below.ensures c.last_below.ensures.last
