use Rattle.std.proofs.Common.{◌≡◌, ◌<◌, ◌-◌, ◌∙◌, ℕ, List, IfOk, length, map, ap, subst, sym, arith}
use Rattle.std.specs.List.{range_with_len}
use Rattle.rayon.specs.Numbers.{nat_range}
use Rattle.rayon.proofs.ToStd.{nat_range-All}
use Rattle.ppd_whole_origins.specs.LinkedPasts.{IsLinked}
use Rattle.ppd_whole.specs.Told.{told_at}
use Rattle.ppd_whole.proofs.Events.Parts.{below, parts_in}
use Rattle.ppd_whole.proofs.text.lines_of_all.Goals as goal

-- the closure holds `linked` and `events` at its second and third place

pub collect-all-requires-clause-ready : goal.collect-all-requires-clause-ready
collect-all-requires-clause-ready g c κs within =
    let ends = c.into_par_iter.ensures in
    let end = ap (λ it. it.base.end) c.map.ensures.base ∙ ap (λ it. it.end) c.with_min_len.ensures.base ∙ ends.1 in
    let events = sym (ap (λ f. f.2.now) c.map.ensures.f) in
    let linked = sym (ap (λ f. f.1.now) c.map.ensures.f) in
    let inside = nat_range-All (λ i. i < c.map.result.base.base.end) c.map.result.base.base.start c.map.result.base.base.end (λ i low high. high) in
    λ k d lt. ((below (inside k d lt) (end ∙ ap length events), subst IsLinked linked c.requires.linked), λ y p. tt)

pub returns-in-Ok : goal.returns-in-Ok
returns-in-Ok g c =
    let ends = c.into_par_iter.ensures in
    let n = length c.args.events.now in
    let whole : n - 0 ≡ n = omega arith in
    let h = c.in-Ok.ensures in
    let chain = h.1 in
    let places = chain.1 ∙ ap (λ it. nat_range it.base.start it.base.end) c.map.ensures.base ∙ ap (λ it. nat_range it.start it.end) c.with_min_len.ensures.base ∙ (λ i. nat_range (ends.0 i) (ends.1 i)) ∙ ap (range_with_len 0) whole in
    let made = ap (λ f. told_at f.1.now.past.now (map (λ es. map (λ e. e.now) es.items) f.2.now)) c.map.ensures.f in
    let found = parts_in (told_at c.map.result.f.1.now.past.now (map (λ es. map (λ e. e.now) es.items) c.map.result.f.2.now)) (λ v. v.items) chain.0 h.0 c.in-Ok.parts chain.2 h.2 in
    subst (λ zs. IfOk c.in-Ok.parts (λ parts. parts.items ≡ map (told_at c.args.linked.now.past.now (map (λ es. map (λ e. e.now) es.items) c.args.events.now)) zs)) places
    (subst (λ (t : ℕ → List ℕ). IfOk c.in-Ok.parts (λ parts. parts.items ≡ map t chain.0)) made found)
