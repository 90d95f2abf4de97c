use Rattle.std.proofs.Common.{◌≡◌, ◌<◌, ◌∙◌, arith, length, refl, subst, sym}
use Rattle.ppd_model.proofs.Lists.{get_or_any}
use Rattle.ppd_flow_tables.specs.Listed.{IsPlaceUnder}
use Rattle.ppd_flow_tables.specs.Writing.{IsCut}
use Rattle.ppd_flow_tables.proofs.Sought.{first_is, first_past}
use Rattle.ppd_flow_tables.proofs.listing.Listing.first_under.Goals as goal

pub returns-then-count-len : goal.returns-then-count-len
returns-then-count-len c =
    let cut = subst (λ n. IsCut n c.args.self.now.keys c.count_below-count.result) c.key.ensures
    c.count_below-count.ensures in
    first_past c.args.self.now.keys c.args.self.now.rising c.args.number 0 c.count_below-count.result cut refl
    (c.if-count-len.true ∙ c.len.ensures)

pub returns : goal.returns
returns c =
    let keys = c.args.self.now.keys in
    let count = c.count_below-count.result in
    let cut = subst (λ n. IsCut n keys count) c.key.ensures c.count_below-count.ensures in
    let within = cut.within in
    let there : count < length keys = omega (
      arith,
      within,
      λ (e : count ≡ length keys). c.if-count-len.false
          (e ∙ sym c.len.ensures),
    ) in
    first_is keys c.args.self.now.rising c.args.number 0 count cut refl there c.place_under.result
    (subst (λ k. IsPlaceUnder c.args.number k c.place_under.result)
    (c.index.ensures ∙ get_or_any keys count c.index.result.now 0 there) c.place_under.ensures)
