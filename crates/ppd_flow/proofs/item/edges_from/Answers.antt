use Rattle.std.proofs.Common.{◌+◌}
use Rattle.ppd_flow_past.specs.ByReplays.{steps_to_replay}
use Rattle.ppd_flow.proofs.Costing.{costs_edges}
use Rattle.ppd_flow.proofs.Missing.{edges_missed}
use Rattle.ppd_flow.proofs.OfRuns.{gives_edges}
use Rattle.ppd_flow.proofs.item.edges_from.Goals as goal

pub returns-clause-run : goal.returns-clause-run
returns-clause-run g c =
    let past = c.args.past.now in
    let after = c.edges_given.new.steps + steps_to_replay past c.args.at.process c.args.at.interval in
    gives_edges c.replays_are_seen.ensures c.edges_are_found.ensures c.all_own_parts_are_found.ensures past
    c.args.at.process c.args.at.interval c.args.at.item c.args.steps.now after c.edges_given.result
    c.requires.past.program_ok c.edges_given.ensures

pub returns-clause-cost : goal.returns-clause-cost
returns-clause-cost g c =
    let past = c.args.past.now in
    let after = c.edges_given.new.steps + steps_to_replay past c.args.at.process c.args.at.interval in
    costs_edges c.replays_are_seen.ensures c.edges_are_found.ensures c.all_own_parts_are_found.ensures
    c.edges_cost_little.ensures past c.args.at.process c.args.at.interval c.args.at.item c.args.steps.now after
    c.edges_given.result c.requires.past.program_ok c.edges_given.ensures

pub returns-clause-sets : goal.returns-clause-sets
returns-clause-sets g c =
    let past = c.args.past.now in
    let after = c.edges_given.new.steps + steps_to_replay past c.args.at.process c.args.at.interval in
    edges_missed past c.args.at.process c.args.at.interval c.args.at.item c.args.steps.now after
    c.edges_given.result c.edges_given.ensures
