use Rattle.ppd_session.proofs.Flows.{flow_found}
use Rattle.ppd_session.proofs.Replayed.{are_replayed}
use Rattle.ppd_session.proofs.why.edges_in.Goals as goal

pub edges_from-requires-clause-items : goal.edges_from-requires-clause-items
edges_from-requires-clause-items g c =
    are_replayed c.args.past.now c.requires.uncut c.args.block.now.process c.args.block.now.interval c.args.block.now.items.now
    c.requires.told

pub returns : goal.returns
returns g c =
    flow_found c.args.past.now c.requires.uncut c.args.block.now.process c.args.block.now.interval c.args.item _ _
    c.edges_from.result c.edges_from.ensures.found
