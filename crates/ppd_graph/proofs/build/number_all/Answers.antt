use Rattle.std.proofs.Common.{arith, sym, ◌∙◌}
use Rattle.ppd_graph.proofs.build.number_all.Goals as goal

pub check_complete-requires-clause-objects : goal.check_complete-requires-clause-objects
check_complete-requires-clause-objects g c = sym c.first_without_object.ensures.value ∙ c.in_default.is

pub returns-clause-cost : goal.returns-clause-cost
returns-clause-cost g c =
    omega (arith, c.first_without_object.ensures.cost, c.in_ok-nodes.ensures.cost, c.in_ok-check_complete.ensures.cost)
