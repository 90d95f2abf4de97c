use Rattle.std.proofs.Common.{sym, subst, ◌∙◌, ◌≤◌, ◌+◌, ℕ, List, length, get_or}
use Rattle.ppd_check_names.specs.Cost.{plain_below, nested_below}
use Rattle.ppd_check_names.proofs.Table.Costs.{children_few, get_or_again}
use Rattle.ppd_check_names.proofs.Table.Trees.{children_read}
use Rattle.ppd_check_names.proofs.nodes.children_of.Goals as goal

pub returns-clause-few : goal.returns-clause-few
returns-clause-few c =
    let ns = c.args.source.nodes.now in
    let d = c.index-source-id.result in
    subst (λ (l : List ℕ). length l ≤ plain_below ns c.args.id + nested_below ns c.args.id)
    (sym (c.as_slice.ensures ∙ children_read ns c.args.id (get_or ns c.args.id d) c.requires.within (get_or_again ns c.args.id d c.requires.within)))
    (children_few ns c.args.id)
