use Rattle.std.proofs.Common.{arith}
use Rattle.ppd_trace.proofs.tellers.push_zeros.Goals as goal

pub returns-in_err-push-clause-cost : goal.returns-in_err-push-clause-cost
returns-in_err-push-clause-cost g c = omega (arith, c.loop-index.invariant.spent, c.tick.ensures, c.tick-in-loop-index.ensures)
