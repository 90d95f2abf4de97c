use Rattle.std.proofs.Common.{◌∙◌, ap, sym}
use Rattle.ppd_check_names.specs.Reading.{called}
use Rattle.ppd_check_names.specs.Nodes.{phrase_of, phrases_below}
use Rattle.ppd_check_names.proofs.Table.Trees.{called_other}
use Rattle.ppd_check_stmts.proofs.values.called_at.Goals as goal

pub returns-in_default-clause-value : goal.returns-in_default-clause-value
returns-in_default-clause-value c =
    sym (called_other c.rule_of.result (phrases_below c.args.source.nodes.now c.in-Some.child) (phrase_of c.args.source.nodes.now c.in-Some.child) c.in_default.not-Call c.rule_of.ensures.said)
    ∙ sym (ap called c.in-Some.ensures.said)
