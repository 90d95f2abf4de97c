use Rattle.std.proofs.Common.{◌∙◌, sym, subst, List}
use Rattle.ppd_parse.specs.declared.node.Growth.{Growth}
use Rattle.ppd_parse.specs.Grown.{IsGrown}
use Rattle.ppd_parse.proofs.Grown.{grown_add}
use Rattle.ppd_parse.proofs.growth.Grove.add.Goals as goal

pub invariant_of-self : goal.invariant_of-self
invariant_of-self c =
    let m = c.args.self.now in
    record { grown = subst (λ (u : List Growth). IsGrown u m.roots.items) (sym c.in_err-push.ensures.items) m.grown }

pub invariant_of-self-in-Ok : goal.invariant_of-self-in-Ok
invariant_of-self-in-Ok c =
    let m = c.args.self.now in
    record { grown = grown_add m.nodes.items c.args.growth m.roots.items c.args.base m.grown c.requires.base c.requires.leafy c.requires.children c.in_ok-push.ensures.items c.truncate.ensures.items c.in-Ok.ensures.items (c.len-id.ensures ∙ m.nodes.ok.0) }
