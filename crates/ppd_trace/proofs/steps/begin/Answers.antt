use Rattle.std.proofs.Common.{arith}
use Rattle.ppd_trace.proofs.Processes.{begun_is, cells_begun}
use Rattle.ppd_trace.proofs.steps.begin.Goals as goal

pub returns-in-Ok-clause-begun : goal.returns-in-Ok-clause-begun
returns-in-Ok-clause-begun g c =
    let s = c.args.subject.now in
    begun_is s.program.now s.plan.now s.process c.args.budget c.in_ok-proc.proc c.local_cells.result.now c.in-Ok.runs c.tracer_with.result c.tracer_with.ensures
    c.in_ok-proc.ensures.started c.local_cells.ensures c.in-Ok.ensures.value

pub returns-in-Ok-clause-cost : goal.returns-in-Ok-clause-cost
returns-in-Ok-clause-cost g c =
    let s = c.args.subject.now in
    omega (arith, c.begin_body.ensures.cost, cells_begun s.program.now s.plan.now s.process c.args.budget c.in_ok-proc.proc c.local_cells.result.now c.in_ok-proc.ensures.started c.local_cells.ensures)

pub returns-in-Err-clause-cost : goal.returns-in-Err-clause-cost
returns-in-Err-clause-cost g c =
    let s = c.args.subject.now in
    omega (arith, c.begin_body.ensures.cost, cells_begun s.program.now s.plan.now s.process c.args.budget c.in_ok-proc.proc c.local_cells.result.now c.in_ok-proc.ensures.started c.local_cells.ensures)
