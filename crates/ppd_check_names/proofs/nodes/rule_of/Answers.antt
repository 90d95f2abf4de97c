use Rattle.std.proofs.Common.{subst, ◌≡◌, ◌+◌}
use Rattle.ppd_parse.specs.declared.node.Node.{Node}
use Rattle.ppd_check_names.specs.Nodes.{phrase_of, phrases_below, SaysBy}
use Rattle.ppd_check_names.proofs.Table.Costs.{plain_told, nested_told}
use Rattle.ppd_check_names.proofs.Table.Trees.{says_by}
use Rattle.ppd_check_names.specs.Cost.{plain_at, nested_at, plain_by, nested_by, plain_below, nested_below}
use Rattle.ppd_check_names.proofs.nodes.rule_of.Goals as goal

pub returns-clause-said : goal.returns-clause-said
returns-clause-said c =
    subst (λ n. SaysBy n.rule (phrases_below c.args.source.nodes.now c.args.id) (phrase_of c.args.source.nodes.now c.args.id)) c.index-source-id.is
    (says_by c.args.source.nodes.now c.args.id c.index-source-id.result c.args.source.table c.requires.within c.index-source-id.is)

pub returns-clause-plain : goal.returns-clause-plain
returns-clause-plain c =
    let ns = c.args.source.nodes.now in
    subst (λ (n : Node). plain_at ns c.args.id ≡ plain_by n.rule (1 + plain_below ns c.args.id + nested_below ns c.args.id)) c.index-source-id.is
    (plain_told ns c.args.id c.index-source-id.result c.args.source.table c.requires.within c.index-source-id.is)

pub returns-clause-nested : goal.returns-clause-nested
returns-clause-nested c =
    let ns = c.args.source.nodes.now in
    subst (λ (n : Node). nested_at ns c.args.id ≡ nested_by n.rule (1 + plain_below ns c.args.id + nested_below ns c.args.id)) c.index-source-id.is
    (nested_told ns c.args.id c.index-source-id.result c.args.source.table c.requires.within c.index-source-id.is)
