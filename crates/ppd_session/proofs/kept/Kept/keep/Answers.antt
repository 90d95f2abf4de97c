use Rattle.std.proofs.Common.{ap, inl, sym, ◌∙◌, arith, ◌<◌}
use Rattle.ppd_session.specs.Keeping.{Keeping, is_place, kept_of, with_block}
use Rattle.ppd_session.proofs.Keeping.{as_keeping, put_new}
use Rattle.ppd_session.proofs.kept.Kept.keep.Goals as goal

pub returns-in-Ok : goal.returns-in-Ok
returns-in-Ok c =
    let some : 0 < c.self.inside.most = omega (arith, c.if-self-eq0.false) in
    let none = ap (λ (k : Keeping). kept_of k c.args.place) c.self.view_is ∙ c.requires in
    inl (ap (as_keeping c.self.inside.most) c.in-Ok.ensures.entries
    ∙ (ap (λ es. as_keeping c.self.inside.most (record { entries = es; cap = c.self.inside.cache.cap }))
    (put_new is_place c.args.place c.args.items c.self.inside.cache c.self.inside.most some (c.self.invariant some) none)
    ∙ ap (with_block c.args.place c.args.items) c.self.view_is))
