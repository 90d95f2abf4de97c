use Rattle.ppd_model.proofs.laws.happened_before_is_tested.Goals as goal
use Rattle.ppd_model.proofs.LastEdges.{last_edges}
use Rattle.ppd_model.proofs.Tested.{tests_before, tests_edges}

pub returns-clause-on_nodes : goal.returns-clause-on_nodes
returns-clause-on_nodes c = tests_before

pub returns-clause-on_edges : goal.returns-clause-on_edges
returns-clause-on_edges c = tests_edges

pub returns-clause-last_edges : goal.returns-clause-last_edges
returns-clause-last_edges c = last_edges
