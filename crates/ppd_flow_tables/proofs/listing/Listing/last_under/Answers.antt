use Rattle.std.proofs.Common.{◌-◌, ◌<◌, ◌∙◌, arith, length, subst}
use Rattle.ppd_model.proofs.Lists.{get_or_any}
use Rattle.ppd_flow_tables.specs.Listed.{IsPlaceUnder}
use Rattle.ppd_flow_tables.specs.Writing.{IsCut}
use Rattle.ppd_flow_tables.proofs.Sought.{last_is, last_none}
use Rattle.ppd_flow_tables.proofs.listing.Listing.last_under.Goals as goal

pub returns-then-count-eq0 : goal.returns-then-count-eq0
returns-then-count-eq0 c =
    let cut = subst (λ n. IsCut n c.args.self.now.keys c.count_below-count.result) c.key.ensures
    c.count_below-count.ensures in
    last_none c.args.self.now.keys c.args.self.now.rising c.args.number c.args.place c.count_below-count.result cut
    c.if-count-eq0.true

pub returns : goal.returns
returns c =
    let keys = c.args.self.now.keys in
    let count = c.count_below-count.result in
    let cut = subst (λ n. IsCut n keys count) c.key.ensures c.count_below-count.ensures in
    let within = cut.within in
    let there : count - 1 < length keys = omega (arith, within, c.if-count-eq0.false) in
    last_is keys c.args.self.now.rising c.args.number c.args.place count cut c.ranges.place.fits c.if-count-eq0.false
    c.place_under.result
    (subst (λ k. IsPlaceUnder c.args.number k c.place_under.result)
    (c.index.ensures ∙ get_or_any keys (count - 1) c.index.result.now 0 there) c.place_under.ensures)
