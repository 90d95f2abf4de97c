use Rattle.std.proofs.Common.{◌≡◌, ◌<◌, ◌-◌, ◌∙◌, IfOk, length, map, ap, subst, arith, rules}
use Rattle.std.specs.List.{range_with_len}
use Rattle.rayon.specs.Numbers.{nat_range}
use Rattle.rayon.proofs.ToStd.{nat_range-All}
use Rattle.ppd_race.specs.Busy.{races_from}
use Rattle.ppd_race_found.specs.Search.{IsRising}
use Rattle.ppd_race.proofs.Joined.{parts_in}
use Rattle.ppd_race.proofs.search.races_of_processes.Goals as goal

pub collect-all-requires-clause-ready : goal.collect-all-requires-clause-ready
collect-all-requires-clause-ready g c κs within =
    let ends = c.into_par_iter.ensures in
    let inside = nat_range-All (λ i. i < length c.args.rows.now) 0 (length c.args.rows.now) (λ i low high. high) in
    rw (c.map.ensures.base, c.map.ensures.f, c.with_min_len.ensures.base, ends.0, ends.1) (λ k d lt. ((inside k d lt, c.requires.few, c.requires.rows), λ y p. tt))

pub returns-in-Ok : goal.returns-in-Ok
returns-in-Ok g c =
    let ends = c.into_par_iter.ensures in
    let n = length c.args.rows.now in
    let whole : n - 0 ≡ n = omega arith in
    let h = c.in-Ok.ensures in
    let chain = rw (c.map.ensures.base, c.map.ensures.f, c.with_min_len.ensures.base) at h.1 in
    let places = chain.1 ∙ (λ i. nat_range (ends.0 i) (ends.1 i)) ∙ ap (range_with_len 0) whole in
    subst (λ zs. IfOk c.in-Ok.parts (λ all. IsRising c.args.graph.now → all.items ≡ map (races_from c.args.graph.now c.args.rows.now) zs)) places
    (parts_in (IsRising c.args.graph.now) (races_from c.args.graph.now c.args.rows.now) (λ v. v.items) chain.0 h.0 c.in-Ok.parts chain.2 h.2)

pub into_par_iter-requires : goal.into_par_iter-requires
into_par_iter-requires c = search rules depth 1 fits 30

pub returns-in-Err : goal.returns-in-Err
returns-in-Err c = search rules depth 1 fits 30

pub with_min_len-requires : goal.with_min_len-requires
with_min_len-requires c = search rules depth 1 fits 30
