use Rattle.std.proofs.Common.{rules, ◌≡◌, ◌-◌, length}
use Rattle.ppd_check.proofs.Filling.{block_said, last_child}
use Rattle.ppd_check.proofs.bodies.block_of.Goals as goal

pub returns-clause-said : goal.returns-clause-said
returns-clause-said c =
    let k : c.saturating_sub.result ≡ length c.children_of-count.result.now - 1 = search rules in
    block_said c.args.source.nodes.now c.args.id c.saturating_sub.result c.child_at.result
    (last_child c.args.source.nodes.now c.args.id c.saturating_sub.result c.children_of-count.result.now c.children_of-count.ensures.children k) c.child_at.ensures.said
