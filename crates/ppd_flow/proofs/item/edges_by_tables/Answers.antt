use Rattle.ppd_flow.proofs.Costing.{costs_edges}
use Rattle.ppd_flow.proofs.Missing.{edges_missed}
use Rattle.ppd_flow.proofs.OfRuns.{gives_edges}
use Rattle.ppd_flow.proofs.item.edges_by_tables.Goals as goal

pub returns-clause-run : goal.returns-clause-run
returns-clause-run g c =
    gives_edges c.replays_are_seen.ensures c.edges_are_found.ensures c.all_own_parts_are_found.ensures c.args.past.now c.args.at.process c.args.at.interval c.args.at.item c.args.steps.now
    c.edges_found.new.steps c.edges_found.result c.requires.past_is.program_ok c.edges_found.ensures

pub returns-clause-cost : goal.returns-clause-cost
returns-clause-cost g c =
    costs_edges c.replays_are_seen.ensures c.edges_are_found.ensures c.all_own_parts_are_found.ensures c.edges_cost_little.ensures c.args.past.now c.args.at.process c.args.at.interval c.args.at.item c.args.steps.now
    c.edges_found.new.steps c.edges_found.result c.requires.past_is.program_ok c.edges_found.ensures

pub returns-clause-sets : goal.returns-clause-sets
returns-clause-sets g c =
    edges_missed c.args.past.now c.args.at.process c.args.at.interval c.args.at.item c.args.steps.now
    c.edges_found.new.steps c.edges_found.result c.edges_found.ensures
