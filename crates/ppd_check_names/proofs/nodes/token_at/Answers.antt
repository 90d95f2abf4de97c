use Rattle.std.proofs.Common.{ap, Some, None}
use Rattle.ppd_check_names.specs.Reading.{as_token}
use Rattle.ppd_check_names.proofs.Table.Trees.{phrase_below, token_told}
use Rattle.ppd_check_names.proofs.nodes.token_at.Goals as goal

pub returns-in-Some : goal.returns-in-Some
returns-in-Some c =
    token_told c.args.source.nodes.now c.in-Some.child c.index-source-child.result c.as_ref.result _ c.args.source.table c.in-Some.ensures.within c.index-source-child.is c.as_ref.ensures.value
    (phrase_below c.args.source.nodes.now c.args.id c.args.k (Some c.in-Some.child) c.in-Some.ensures.child)

pub returns-in-None : goal.returns-in-None
returns-in-None c = ap as_token (phrase_below c.args.source.nodes.now c.args.id c.args.k None c.in-None.ensures.child)
