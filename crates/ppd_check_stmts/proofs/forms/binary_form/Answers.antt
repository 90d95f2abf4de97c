use Rattle.std.proofs.Common.{arith}
use Rattle.ppd_check_names.proofs.Table.Costs.{plain_two}
use Rattle.ppd_check_stmts.proofs.forms.binary_form.Goals as goal

pub returns-clause-nodes : goal.returns-clause-nodes
returns-clause-nodes c = omega (arith, c.operand_at.ensures.nodes, c.operand_at-2.ensures.nodes, plain_two c.args.source.nodes.now c.args.id 0 2 (omega arith))
