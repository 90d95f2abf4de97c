use Rattle.std.proofs.Common.{arith}
use Rattle.ppd_trace.proofs.pairs.PairedStory.find.Goals as goal

pub returns-in_err-add_leads-clause-cost : goal.returns-in_err-add_leads-clause-cost
returns-in_err-add_leads-clause-cost g c = omega (arith, c.in_err-add_leads.ensures.cost)

pub returns-clause-cost : goal.returns-clause-cost
returns-clause-cost g c = omega (arith, c.add_leads-4.ensures.cost)
