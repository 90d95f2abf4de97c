use Rattle.std.proofs.Common.{◌∙◌, ap, sym, rules}
use Rattle.ppd_check_names.specs.Reading.{as_value}
use Rattle.ppd_check_names.specs.Nodes.{phrase_of, phrases_below}
use Rattle.ppd_check_names.proofs.Table.Trees.{value_other}
use Rattle.ppd_check_stmts.proofs.values.value_at.Goals as goal

pub returns-in_default-clause-value : goal.returns-in_default-clause-value
returns-in_default-clause-value c =
    sym (value_other c.rule_of.result (phrases_below c.args.source.nodes.now c.in-Some.child) (phrase_of c.args.source.nodes.now c.in-Some.child) c.in_default.not-Call c.in_default.not-Value c.rule_of.ensures.said)
    ∙ sym (ap as_value c.in-Some.ensures.said)

pub child_at-requires : goal.child_at-requires
child_at-requires c = search rules depth 1 fits 30

pub returns-in-Call : goal.returns-in-Call
returns-in-Call c = search rules depth 1 fits 30

pub returns-in-None : goal.returns-in-None
returns-in-None c = search rules depth 1 fits 30

pub returns-in-Value : goal.returns-in-Value
returns-in-Value c = search rules depth 1 fits 30

pub returns-in_default-clause-nodes : goal.returns-in_default-clause-nodes
returns-in_default-clause-nodes c = search rules depth 1 fits 30

pub returns-in_default-clause-within : goal.returns-in_default-clause-within
returns-in_default-clause-within c = search rules depth 1 fits 30

pub rule_of-requires : goal.rule_of-requires
rule_of-requires c = search rules depth 1 fits 30

pub value_in-requires : goal.value_in-requires
value_in-requires c = search rules depth 1 fits 30
