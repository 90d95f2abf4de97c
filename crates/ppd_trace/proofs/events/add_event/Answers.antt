use Rattle.std.proofs.Common.{arith}
use Rattle.ppd_trace.proofs.events.add_event.Goals as goal

pub returns-in_err-event-clause-cost : goal.returns-in_err-event-clause-cost
returns-in_err-event-clause-cost g c = omega (arith, c.in_err-event.ensures.cost)
