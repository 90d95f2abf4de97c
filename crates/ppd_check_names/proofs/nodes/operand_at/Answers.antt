use Rattle.std.proofs.Common.{sym, ap, Some, None}
use Rattle.ppd_check_names.specs.Reading.{as_formula}
use Rattle.ppd_check_names.proofs.Table.Trees.{phrase_below}
use Rattle.ppd_check_names.proofs.nodes.operand_at.Goals as goal

pub returns-in-Some-clause-formula : goal.returns-in-Some-clause-formula
returns-in-Some-clause-formula c = sym (ap as_formula (phrase_below c.args.source.nodes.now c.args.id c.args.k (Some c.in-Some.child) c.in-Some.ensures.child))

pub returns-in-None-clause-formula : goal.returns-in-None-clause-formula
returns-in-None-clause-formula c = sym (ap as_formula (phrase_below c.args.source.nodes.now c.args.id c.args.k None c.in-None.ensures.child))
