use Rattle.std.proofs.Common.{arith}
use Rattle.ppd_check_names.proofs.Table.Costs.{children_few}
use Rattle.ppd_check.proofs.endings.ending_of_node.Goals as goal

pub returns-in-Local-clause-cost : goal.returns-in-Local-clause-cost
returns-in-Local-clause-cost g c = omega (arith, c.ending_of_locals.ensures.cost, c.in-Local.ensures.nested, children_few c.args.source.nodes.now c.args.id)
