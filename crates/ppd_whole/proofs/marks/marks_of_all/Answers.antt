use Rattle.std.proofs.Common.{◌≡◌, ◌<◌, ◌-◌, ◌∙◌, ℕ, [], IfOk, length, map, get_or, ap, subst, sym, arith}
use Rattle.std.specs.List.{range_with_len}
use Rattle.std.proofs.lemmas.Simd.{map-map}
use Rattle.rayon.specs.Numbers.{nat_range}
use Rattle.rayon.proofs.ListFacts.{IfOk-then}
use Rattle.rayon.proofs.ToStd.{nat_range-All}
use Rattle.ppd_whole_link.specs.declared.marks.Marks.{Marks}
use Rattle.ppd_whole_link.specs.Marks.{marks_after}
use Rattle.ppd_whole.proofs.Events.Parts.{below, made_of_all, parts_in}
use Rattle.ppd_whole.proofs.marks.marks_of_all.Goals as goal

-- the closure holds `events` at its second place

pub collect-all-requires-clause-ready : goal.collect-all-requires-clause-ready
collect-all-requires-clause-ready g c κs within =
    let ends = c.into_par_iter.ensures in
    let end = ap (λ it. it.base.end) c.map.ensures.base ∙ ap (λ it. it.end) c.with_min_len.ensures.base ∙ ends.1 in
    let events = sym (ap (λ f. f.1.now) c.map.ensures.f) in
    let inside = nat_range-All (λ i. i < c.map.result.base.base.end) c.map.result.base.base.start c.map.result.base.base.end (λ i low high. high) in
    λ k d lt. (below (inside k d lt) (end ∙ ap length events), λ y p. tt)

pub returns-in-Ok : goal.returns-in-Ok
returns-in-Ok g c =
    let ends = c.into_par_iter.ensures in
    let n = length c.args.events.now in
    let whole : n - 0 ≡ n = omega arith in
    let h = c.in-Ok.ensures in
    let chain = h.1 in
    let places = chain.1 ∙ ap (λ it. nat_range it.base.start it.base.end) c.map.ensures.base ∙ ap (λ it. nat_range it.start it.end) c.with_min_len.ensures.base ∙ (λ i. nat_range (ends.0 i) (ends.1 i)) ∙ ap (range_with_len 0) whole in
    let made = ap (λ f. λ (p : ℕ). marks_after (get_or (map (λ es. map (λ e. e.now) es.items) f.1.now) p [])) c.map.ensures.f in
    let found = parts_in (λ p. marks_after (get_or (map (λ es. map (λ e. e.now) es.items) c.map.result.f.1.now) p [])) (λ v. v.items) chain.0 h.0 c.in-Ok.marks chain.2 h.2 in
    IfOk-then c.in-Ok.marks _ _
    (subst (λ zs. IfOk c.in-Ok.marks (λ marks. marks.items ≡ map (λ p. marks_after (get_or (map (λ es. map (λ e. e.now) es.items) c.args.events.now) p [])) zs)) places
    (subst (λ (t : ℕ → Marks). IfOk c.in-Ok.marks (λ marks. marks.items ≡ map t chain.0)) made found))
    (λ marks are. are ∙ made_of_all (λ es. map (λ e. e.now) es.items) marks_after c.args.events.now [] ∙ map-map marks_after (λ es. map (λ e. e.now) es.items) c.args.events.now)
