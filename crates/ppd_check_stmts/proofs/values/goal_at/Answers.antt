use Rattle.std.proofs.Common.{◌∙◌, ap, sym}
use Rattle.ppd_check_names.specs.Reading.{as_goal}
use Rattle.ppd_check_names.specs.Nodes.{phrase_of, phrases_below}
use Rattle.ppd_check_names.proofs.Table.Trees.{goal_other}
use Rattle.ppd_check_stmts.proofs.values.goal_at.Goals as goal

pub returns-in_default-clause-goal : goal.returns-in_default-clause-goal
returns-in_default-clause-goal c =
    sym (goal_other c.rule_of.result (phrases_below c.args.source.nodes.now c.in-Some.child) (phrase_of c.args.source.nodes.now c.in-Some.child) c.in_default.not-Place c.rule_of.ensures.said)
    ∙ sym (ap as_goal c.in-Some.ensures.said)
