use Rattle.std.proofs.Common.{arith}
use Rattle.ppd_check_names.proofs.Table.Costs.{children_few}
use Rattle.ppd_check_names.proofs.signatures.count_said.Goals as goal

pub returns-in-Params-clause-cost : goal.returns-in-Params-clause-cost
returns-in-Params-clause-cost g c = omega (arith, c.count_names.ensures.cost, c.in-Params.ensures.plain, children_few c.args.source.nodes.now c.args.id)
