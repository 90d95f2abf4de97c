use Rattle.ppd_check_names.proofs.Table.Costs.{plain_child_told, nested_child_told, plain_one, nested_one}
use Rattle.ppd_check_names.proofs.Table.Trees.{child_said}
use Rattle.ppd_check_names.proofs.nodes.child_at.Goals as goal

pub returns-clause-said : goal.returns-clause-said
returns-clause-said c = child_said c.args.source.nodes.now c.args.id c.args.k c.child_id.result c.child_id.ensures.child

pub returns-clause-plain : goal.returns-clause-plain
returns-clause-plain c = plain_child_told c.args.source.nodes.now c.args.id c.args.k c.child_id.result c.child_id.ensures.child

pub returns-clause-nested : goal.returns-clause-nested
returns-clause-nested c = nested_child_told c.args.source.nodes.now c.args.id c.args.k c.child_id.result c.child_id.ensures.child

pub returns-clause-plain_few : goal.returns-clause-plain_few
returns-clause-plain_few c = plain_one c.args.source.nodes.now c.args.id c.args.k

pub returns-clause-nested_few : goal.returns-clause-nested_few
returns-clause-nested_few c = nested_one c.args.source.nodes.now c.args.id c.args.k
