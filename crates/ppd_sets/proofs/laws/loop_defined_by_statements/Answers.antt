use Rattle.ppd_sets.proofs.Looping.{loop_defined_by_statements}
use Rattle.ppd_sets.proofs.laws.loop_defined_by_statements.Goals as goal

pub returns : goal.returns
returns c = loop_defined_by_statements
