use Rattle.ppd_graph.specs.Shared.{found_last}
use Rattle.ppd_flow_shared.specs.SharedCells.{seens_in}
use Rattle.ppd_flow.proofs.Costing.{costs_last}
use Rattle.ppd_flow.proofs.Missing.{last_missed}
use Rattle.ppd_flow.proofs.OfRuns.{gives_last}
use Rattle.ppd_flow.proofs.value.last.Goals as goal

pub returns-clause-run : goal.returns-clause-run
returns-clause-run g c =
    gives_last c.replays_are_seen.ensures c.last_writes_are_found.ensures c.args.past.now c.args.cell c.args.steps.now c.last_write.new.steps
    (found_last c.args.past.now.program.now c.args.past.now.logs.now (seens_in c.args.past.now) c.args.cell).replays c.last_write.result c.requires.program_ok c.last_write.ensures

pub returns-clause-cost : goal.returns-clause-cost
returns-clause-cost g c =
    costs_last c.replays_are_seen.ensures c.last_costs_little.ensures c.args.past.now c.args.cell c.args.steps.now c.last_write.new.steps c.last_write.result c.requires.program_ok c.last_write.ensures

pub returns-clause-sets : goal.returns-clause-sets
returns-clause-sets g c =
    last_missed c.args.past.now c.args.cell c.args.steps.now c.last_write.new.steps
    c.last_write.result c.last_write.ensures
