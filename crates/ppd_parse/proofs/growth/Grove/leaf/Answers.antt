use Rattle.std.proofs.Common.{◌≡◌, ◌∙◌, ap, refl, Some, ◌++◌, ◌∷◌, length, take, [], rules}
use Rattle.std.proofs.lemmas.List.{take_all}
use Rattle.ppd_parse.proofs.Table.{leaf_added}
use Rattle.ppd_parse.proofs.growth.Grove.leaf.Goals as goal

pub returns : goal.returns
returns c =
    let m = c.args.self.now in
    let all : take c.len-base.result m.roots.items ≡ m.roots.items = take_all c.len-base.result m.roots.items (search rules) in
    leaf_added m.nodes.items _ m.roots.items c.args.token.now c.in_ok-add.ensures.nodes (c.in_ok-add.ensures.roots ∙ ap (λ u. u ++ length m.nodes.items ∷ []) all) refl m.grown.0 (ap Some c.in_ok-token.ensures)
