-- The edges of races among edges are there.
use Rattle.std.proofs.Common.{◌≡◌, ℕ, zero, suc, ◌+◌, ◌-◌, ◌<◌, ◌≤◌, true, List, [], ◌∷◌, sym, subst, arith, inl, inr, eqb-true, map}
use Rattle.std.specs.List.{flat_map, range_with_len}
use Rattle.std.specs.Prelude.{nat_eq, ◌&&◌}
use Rattle.law_clean.specs.Pasts.{is_raced}
use Rattle.law_clean.proofs.PastRaces.{both, either}
use Rattle.law_clean.proofs.PastsGrow.{any_found}
use Rattle.law_flow.proofs.Edges.Sources.Members.{in_cases, in_either, in_filter, no_member}
use Rattle.ppd_model.specs.declared.graph.EdgeId.{EdgeId}
use Rattle.ppd_model.specs.declared.graph.Race.{Race}
use Rattle.ppd_model.specs.HappenedBefore.{edge}
use Rattle.ppd_model.specs.Races.{Edges, candidates, candidates_at, is_race, kinds, race, races_among}
use Rattle.ppd_model.proofs.OrderWords.{own_edges}
use Rattle.ppd_model.proofs.Tested.{In}
use Rattle.ppd_race.specs.Races.{IsThere}
use Rattle.law_clean.proofs.PastWords.{is_of_race}

out_of : {A B : Type 0} (f : A → List B) (b : B) (xs : List A) → In b (flat_map f xs) → (a : A) × In a xs × In b (f a)
out_of f b [] m = absurd (no_member m)
out_of f b (x ∷ xs) m = elim (in_either b (f x) (flat_map f xs) m) [
  | inl now ↦ (x, In.here, now)
  | inr later ↦ let r = out_of f b xs later in (r.0, In.there r.1, r.2)
]

out_of_map : {A B : Type 0} (f : A → B) (b : B) (xs : List A) → In b (map f xs) → (a : A) × (b ≡ f a)
out_of_map f b [] m = absurd (no_member m)
out_of_map f b (x ∷ xs) m = elim (in_cases b (f x) (map f xs) m) [
  | inl now ↦ (x, now)
  | inr later ↦ out_of_map f b xs later
]

ranged : (a n i : ℕ) → In i (range_with_len a n) → (a ≤ i) × (i < a + n)
ranged a zero i m = absurd (no_member m)
ranged a (suc n) i m = elim (in_cases i a (range_with_len (a + 1) n) m) [
  | inl same ↦ (omega (arith, same), omega (arith, same))
  | inr later ↦ let r = ranged (a + 1) n i later in let low = r.0 in let high = r.1 in (omega (arith, low), omega (arith, high))
]

module _ (e : Edges) where
  candidate_there : (r : Race) → In r (candidates e) → IsThere e (edge r.p r.i) × IsThere e (edge r.q r.j)
  candidate_there r m =
      let a = out_of (λ p. flat_map (λ i. flat_map (λ q. flat_map (λ j. candidates_at e p i q j) (own_edges e q)) (range_with_len (p + 1) (e.processes - (p + 1)))) (own_edges e p)) r (range_with_len 0 e.processes) m in
      let b = out_of (λ i. flat_map (λ q. flat_map (λ j. candidates_at e a.0 i q j) (own_edges e q)) (range_with_len (a.0 + 1) (e.processes - (a.0 + 1)))) r (own_edges e a.0) a.2 in
      let c = out_of (λ q. flat_map (λ j. candidates_at e a.0 b.0 q j) (own_edges e q)) r (range_with_len (a.0 + 1) (e.processes - (a.0 + 1))) b.2 in
      let d = out_of (λ j. candidates_at e a.0 b.0 c.0 j) r (own_edges e c.0) c.2 in
      let f = out_of (λ cell. map (race a.0 b.0 c.0 d.0 cell) kinds) r (range_with_len 0 e.cells) d.2 in
      let g = out_of_map (race a.0 b.0 c.0 d.0 f.0) r kinds f.2 in
      let p : a.0 < 0 + e.processes = (ranged 0 e.processes a.0 a.1).1 in
      let i : b.0 < 0 + e.count a.0 = (ranged 0 (e.count a.0) b.0 b.1).1 in
      let q = ranged (a.0 + 1) (e.processes - (a.0 + 1)) c.0 c.1 in
      let low = q.0 in
      let high = q.1 in
      let j : d.0 < 0 + e.count c.0 = (ranged 0 (e.count c.0) d.0 d.1).1 in
      subst (λ (z : Race). IsThere e (edge z.p z.i) × IsThere e (edge z.q z.j)) {x = race a.0 b.0 c.0 d.0 f.0 g.0} (sym {b = race a.0 b.0 c.0 d.0 f.0 g.0} g.1)
      ((omega (arith, p), omega (arith, i)), (omega (arith, low, high, p), omega (arith, j)))

  pub raced_there : (a : EdgeId) → is_raced (races_among e) a ≡ true → IsThere e a
  raced_there a h =
      let f = any_found (is_of_race a) (races_among e) h in
      let r : Race = f.0 in
      let t = candidate_there r (in_filter (is_race e) r (candidates e) f.1).0 in
      elim (either (nat_eq r.p a.process && nat_eq r.i a.edge) (nat_eq r.q a.process && nat_eq r.j a.edge) f.2) [
        | inl first ↦
            let b = both (nat_eq r.p a.process) (nat_eq r.i a.edge) first in
            subst (λ i. IsThere e (edge a.process i)) (eqb-true r.i a.edge b.1) (subst (λ p. IsThere e (edge p r.i)) (eqb-true r.p a.process b.0) t.0)
        | inr second ↦
            let b = both (nat_eq r.q a.process) (nat_eq r.j a.edge) second in
            subst (λ i. IsThere e (edge a.process i)) (eqb-true r.j a.edge b.1) (subst (λ p. IsThere e (edge p r.j)) (eqb-true r.q a.process b.0) t.1)
      ]
