use Rattle.std.proofs.Common.{◌+◌}
use Rattle.ppd_flow_past.specs.ByReplays.{steps_to_replay}
use Rattle.ppd_graph.specs.Shared.{found_last}
use Rattle.ppd_flow_shared.specs.SharedCells.{seens_in}
use Rattle.ppd_flow.proofs.Costing.{costs_last}
use Rattle.ppd_flow.proofs.Missing.{last_missed}
use Rattle.ppd_flow.proofs.OfRuns.{gives_last}
use Rattle.ppd_flow.proofs.value.last_from.Goals as goal

pub returns-clause-run : goal.returns-clause-run
returns-clause-run g c =
    let past = c.args.past.now in
    let after = c.last_write_from.new.steps + steps_to_replay past c.args.last.edge.process c.args.last.interval in
    gives_last c.replays_are_seen.ensures c.last_writes_are_found.ensures past c.args.cell c.args.steps.now after
    (found_last past.program.now past.logs.now (seens_in past) c.args.cell).replays c.last_write_from.result
    c.requires.items.together.program_ok c.last_write_from.ensures

pub returns-clause-cost : goal.returns-clause-cost
returns-clause-cost g c =
    let past = c.args.past.now in
    let after = c.last_write_from.new.steps + steps_to_replay past c.args.last.edge.process c.args.last.interval in
    costs_last c.replays_are_seen.ensures c.last_costs_little.ensures past c.args.cell c.args.steps.now after
    c.last_write_from.result c.requires.items.together.program_ok c.last_write_from.ensures

pub returns-clause-sets : goal.returns-clause-sets
returns-clause-sets g c =
    let past = c.args.past.now in
    let after = c.last_write_from.new.steps + steps_to_replay past c.args.last.edge.process c.args.last.interval in
    last_missed past c.args.cell c.args.steps.now after c.last_write_from.result
    c.last_write_from.ensures
