use Rattle.std.proofs.Common.{◌≡◌, ◌∙◌, ap, refl, length, take, drop, min, ◌-◌}
use Rattle.ppd_parse.proofs.Table.{node_added}
use Rattle.ppd_parse.proofs.growth.Grove.close.Goals as goal

pub returns : goal.returns
returns c =
    let m = c.args.self.now in
    let base : c.min-base.result ≡ min c.args.base (length m.roots.items) = c.min-base.ensures ∙ ap (min c.args.base) (c.len.ensures ∙ m.roots.ok.0) in
    let kids : c.in_ok-children.children.items ≡ take (length m.roots.items - c.min-base.result) (drop c.min-base.result m.roots.items) = c.in_ok-children.ensures.items ∙ ap (λ xs. take (length xs - c.min-base.result) (drop c.min-base.result xs)) c.deref.ensures.value in
    node_added m.nodes.items _ m.roots.items c.args.base c.in_ok-add.ensures.nodes c.in_ok-add.ensures.roots refl refl m.grown.0 refl kids base
