use Rattle.std.proofs.Common.{◌≡◌, ◌<◌, ◌-◌, ◌∙◌, ℕ, [], List, IfOk, length, map, get_or, ap, refl, subst, sym, arith}
use Rattle.std.specs.List.{range_with_len}
use Rattle.std.proofs.lemmas.List.{length-map}
use Rattle.std.proofs.lemmas.List.FromFn.{fill_by_all}
use Rattle.rayon.specs.Numbers.{nat_range}
use Rattle.rayon.proofs.ListFacts.{IfOk-then}
use Rattle.rayon.proofs.ToStd.{nat_range-All}
use Rattle.ppd_sem.specs.declared.event.Event.{Event}
use Rattle.ppd_flow_past.specs.declared.past.Past.{Past}
use Rattle.law_flow.specs.Joined.{events_in}
use Rattle.ppd_flow.specs.SharedCells.{seens_in}
use Rattle.ppd_whole.proofs.Events.Parts.{below, made_in}
use Rattle.ppd_whole.proofs.processes.events_by.Goals as goal

-- the closure holds `past` and `own` at its second and third place

pub collect-all-requires-clause-ready : goal.collect-all-requires-clause-ready
collect-all-requires-clause-ready g c κs within =
    let ends = c.into_par_iter.ensures in
    let end = ap (λ it. it.base.end) c.map.ensures.base ∙ ap (λ it. it.end) c.with_min_len.ensures.base ∙ ends.1 in
    let rows = sym (ap (λ f. f.2.now) c.map.ensures.f) in
    let past = sym (ap (λ f. f.1.now) c.map.ensures.f) in
    let inside = nat_range-All (λ i. i < c.map.result.base.base.end) c.map.result.base.base.start c.map.result.base.base.end (λ i low high. high) in
    λ k d lt. ((below (inside k d lt) (end ∙ ap length rows), ap (map _) (sym rows) ∙ c.requires.own ∙ ap (λ (p : Past). map (λ x. x.items) (seens_in p)) past), λ y p. tt)

pub returns-in-Ok : goal.returns-in-Ok
returns-in-Ok g c =
    let past : Past = c.args.past.now in
    let ends = c.into_par_iter.ensures in
    let n = length c.args.own.now in
    let whole : n - 0 ≡ n = omega arith in
    let h = c.in-Ok.ensures in
    let chain = h.1 in
    let places = chain.1 ∙ ap (λ it. nat_range it.base.start it.base.end) c.map.ensures.base ∙ ap (λ it. nat_range it.start it.end) c.with_min_len.ensures.base ∙ (λ i. nat_range (ends.0 i) (ends.1 i)) ∙ ap (range_with_len 0) whole in
    let made = ap (λ f. λ (p : ℕ). get_or (map events_in (seens_in f.1.now)) p []) c.map.ensures.f in
    let found = made_in (λ p. get_or (map events_in (seens_in c.map.result.f.1.now)) p []) (λ es. map (λ e. e.now) es.items) (λ v. v.items) chain.0 h.0 c.in-Ok.events chain.2 h.2 in
    let long : length (map events_in (seens_in past)) ≡ n = length-map (seens_in past) events_in ∙ sym (length-map (seens_in past) (λ x. x.items)) ∙ ap length (sym c.requires.own) ∙ length-map c.args.own.now _ in
    IfOk-then c.in-Ok.events _ _
    (subst (λ zs. IfOk c.in-Ok.events (λ all. map (λ es. map (λ e. e.now) es.items) all.items ≡ map (λ p. get_or (map events_in (seens_in past)) p []) zs)) places
    (subst (λ (t : ℕ → List Event). IfOk c.in-Ok.events (λ all. map (λ es. map (λ e. e.now) es.items) all.items ≡ map t chain.0)) made found))
    (λ all are. are ∙ sym (fill_by_all (λ p. get_or (map events_in (seens_in past)) p []) (map events_in (seens_in past)) n [] long (λ k lt. refl)))
