-- The past of an edge has a race: by the edges of the past, and by the races.
use Rattle.law_clean.proofs.Ordered.{any_in}
use Rattle.law_clean.proofs.PastWords.{is_item_past, is_of_race, is_raced_to, tests}
use Rattle.law_clean.proofs.PastsGrow.{any_found, past_next}
use Rattle.law_clean.specs.Pasts.{Lies, any_raced, is_clean, is_past, is_raced, is_same_edge}
use Rattle.law_clean.specs.Search.{leads_from_race}
use Rattle.ppd_ast.specs.declared.program.Program.{Program}
use Rattle.ppd_model.proofs.Accesses.{record_at}
use Rattle.ppd_model.proofs.Tested.{In, tests_edges}
use Rattle.ppd_model.specs.HappenedBefore.{edge, is_before, is_edge_before, node}
use Rattle.ppd_model.specs.Races.{edges_of_story, races_among}
use Rattle.ppd_model.specs.Record.{record_of}
use Rattle.ppd_model.specs.Synchronizations.{Sync, sync_of}
use Rattle.ppd_model.specs.declared.graph.EdgeId.{EdgeId}
use Rattle.ppd_model.specs.declared.graph.NodeId.{NodeId}
use Rattle.ppd_model.specs.declared.graph.Race.{Race}
use Rattle.ppd_model.specs.declared.tracing.Story.{Story}
use Rattle.std.proofs.Common.{Bool, List, [], ap, arith, eq-eqb, eqb-true, false, inl, inr, length, refl, subst, suc, sym, true, true≢false, zero, ℕ, ◌&&◌, ◌+◌, ◌-◌, ◌<◌, ◌||◌, ◌∙◌, ◌∷◌, ◌≡◌, ◌≤◌, ◌⊎◌}
use Rattle.std.proofs.lemmas.Bool.{and_from, false_from_ne_true, le-leb, leb-true, or_left, or_right}
use Rattle.std.specs.Prelude.{filter_map, get_or, nat_eq, nat_le, not}

pub either : (a b : Bool) → (a || b) ≡ true → (a ≡ true) ⊎ (b ≡ true)
either true b e = inl refl
either false b e = inr e

pub both : (a b : Bool) → (a && b) ≡ true → (a ≡ true) × (b ≡ true)
both true b e = (refl, e)
both false b e = absurd (true≢false (sym e))

same_is : (a e : EdgeId) → is_same_edge a e ≡ true → a ≡ e
same_is a e h =
    let b = both (nat_eq a.process e.process) (nat_eq a.edge e.edge) h in
    ap (λ p. edge p a.edge) (eqb-true a.process e.process b.0) ∙ ap (λ i. edge e.process i) (eqb-true a.edge e.edge b.1)

-- an edge of a race
race_first : (r : Race) (rs : List Race) → In r rs → is_raced rs (edge r.p r.i) ≡ true
race_first r rs m =
    any_in (is_of_race (edge r.p r.i)) r rs m
    (or_left (nat_eq r.p r.p && nat_eq r.i r.i) (nat_eq r.q r.p && nat_eq r.j r.i) (and_from (nat_eq r.p r.p) (nat_eq r.i r.i) (eq-eqb r.p r.p refl) (eq-eqb r.i r.i refl)))

race_second : (r : Race) (rs : List Race) → In r rs → is_raced rs (edge r.q r.j) ≡ true
race_second r rs m =
    any_in (is_of_race (edge r.q r.j)) r rs m
    (or_right (nat_eq r.p r.q && nat_eq r.i r.j) (nat_eq r.q r.q && nat_eq r.j r.j) (and_from (nat_eq r.q r.q) (nat_eq r.j r.j) (eq-eqb r.q r.q refl) (eq-eqb r.j r.j refl)))

pub edge_of_race : (t : EdgeId → Bool) (rs : List Race) → any_raced t rs ≡ true → (a : EdgeId) × (is_raced rs a ≡ true) × (t a ≡ true)
edge_of_race t rs e =
    let f = any_found (tests t) rs e in
    elim (either (t (edge f.0.p f.0.i)) (t (edge f.0.q f.0.j)) f.2) [
      | inl first ↦ (edge f.0.p f.0.i, race_first f.0 rs f.1, first)
      | inr second ↦ (edge f.0.q f.0.j, race_second f.0 rs f.1, second)
    ]

pub race_of_edge : (t : EdgeId → Bool) (rs : List Race) (a : EdgeId) → is_raced rs a ≡ true → t a ≡ true → any_raced t rs ≡ true
race_of_edge t rs a e h =
    let f = any_found (is_of_race a) rs e in
    any_in (tests t) f.0 rs f.1
    (elim (either (nat_eq f.0.p a.process && nat_eq f.0.i a.edge) (nat_eq f.0.q a.process && nat_eq f.0.j a.edge) f.2) [
      | inl first ↦ or_left (t (edge f.0.p f.0.i)) (t (edge f.0.q f.0.j)) (ap t (same_is (edge f.0.p f.0.i) a first) ∙ h)
      | inr second ↦ or_right (t (edge f.0.p f.0.i)) (t (edge f.0.q f.0.j)) (ap t (same_is (edge f.0.q f.0.j) a second) ∙ h)
    ])

-- where no race has an edge of a process up to one, none has one of these
pub raced_up : (program : Program) (rec : List (List Sync)) (rs : List Race) (q e i : ℕ) → e ≤ i → is_raced rs (edge q e) ≡ true → is_raced_to program rec rs q i ≡ true
raced_up program rec rs q e i le h =
    let f = any_found (is_of_race (edge q e)) rs h in
    any_in (λ (r : Race). (nat_eq r.p q && nat_le r.i i) || (nat_eq r.q q && nat_le r.j i)) f.0 rs f.1
    (elim (either (nat_eq f.0.p q && nat_eq f.0.i e) (nat_eq f.0.q q && nat_eq f.0.j e) f.2) [
      | inl first ↦
          let b = both (nat_eq f.0.p q) (nat_eq f.0.i e) first in
          let is : f.0.i ≡ e = eqb-true f.0.i e b.1 in
          or_left (nat_eq f.0.p q && nat_le f.0.i i) (nat_eq f.0.q q && nat_le f.0.j i) (and_from (nat_eq f.0.p q) (nat_le f.0.i i) b.0 (le-leb f.0.i i (omega (arith, is, le))))
      | inr second ↦
          let b = both (nat_eq f.0.q q) (nat_eq f.0.j e) second in
          let is : f.0.j ≡ e = eqb-true f.0.j e b.1 in
          or_right (nat_eq f.0.p q && nat_le f.0.i i) (nat_eq f.0.q q && nat_le f.0.j i) (and_from (nat_eq f.0.q q) (nat_le f.0.j i) b.0 (le-leb f.0.j i (omega (arith, is, le))))
    ])

pub not_raced : (program : Program) (rec : List (List Sync)) (rs : List Race) (q i : ℕ) → is_raced_to program rec rs q i ≡ false → (e : ℕ) → e ≤ i → is_raced rs (edge q e) ≡ false
not_raced program rec rs q i h e le = false_from_ne_true (is_raced rs (edge q e)) (λ raced. true≢false (sym (raced_up program rec rs q e i le raced) ∙ h))

-- and the other way round
pub raced_from : (program : Program) (rec : List (List Sync)) (rs : List Race) (q i : ℕ) → is_raced_to program rec rs q i ≡ true → (e : ℕ) × (e ≤ i) × (is_raced rs (edge q e) ≡ true)
raced_from program rec rs q i h =
    let f = any_found (λ (r : Race). (nat_eq r.p q && nat_le r.i i) || (nat_eq r.q q && nat_le r.j i)) rs h in
    elim (either (nat_eq f.0.p q && nat_le f.0.i i) (nat_eq f.0.q q && nat_le f.0.j i) f.2) [
      | inl first ↦ (let b = both (nat_eq f.0.p q) (nat_le f.0.i i) first in (f.0.i, leb-true f.0.i i b.1, subst (λ z. is_raced rs (edge z f.0.i) ≡ true) (eqb-true f.0.p q b.0) (race_first f.0 rs f.1)))
      | inr second ↦ (let b = both (nat_eq f.0.q q) (nat_le f.0.j i) second in (f.0.j, leb-true f.0.j i b.1, subst (λ z. is_raced rs (edge z f.0.j) ≡ true) (eqb-true f.0.q q b.0) (race_second f.0 rs f.1)))
    ]

module _ (program : Program) (s : Story) where
  abbrev Rec : List (List Sync)
  Rec = record_of s

  abbrev Has : EdgeId → Bool
  Has e = any_raced (is_past program (record_of s) e) (races_among (edges_of_story program s))

  -- a race in the past of an edge is in that of the next one
  pasts_grow : (p i : ℕ) → i < length (get_or Rec p []) → Has (edge p i) ≡ true → Has (edge p (i + 1)) ≡ true
  pasts_grow p i lt raced =
      let f = edge_of_race (is_past program Rec (edge p i)) (races_among (edges_of_story program s)) raced in
      race_of_edge (is_past program Rec (edge p (i + 1))) (races_among (edges_of_story program s)) f.0 f.1
      (or_right (is_same_edge f.0 (edge p (i + 1))) (is_edge_before program Rec f.0 (edge p (i + 1))) ((tests_edges program Rec f.0 (edge p (i + 1))).1 (past_next program s p i f.0 f.2 lt)))

  -- ---- growing pasts

  module _ (p : ℕ) (there : p < length s.steps) where
    abbrev Far : ℕ
    Far = length (filter_map sync_of (get_or s.steps p []))

    far_is : length (get_or Rec p []) ≡ length (filter_map sync_of (get_or s.steps p []))
    far_is = ap length (record_at s.steps p)

    pub grows : (k e : ℕ) → e + k ≤ Far → Has (edge p e) ≡ true → Has (edge p (e + k)) ≡ true
    grows zero e le h = let z : e ≡ e + zero = omega arith in subst (λ i. Has (edge p i) ≡ true) z h
    grows (suc k) e le h =
        let z : (e + 1) + k ≡ e + suc k = omega arith in
        let far : length (get_or Rec p []) ≡ length (filter_map sync_of (get_or s.steps p [])) = far_is in
        subst (λ i. Has (edge p i) ≡ true) z
        (grows k (e + 1) (omega (arith, le)) (pasts_grow p e (omega (arith, le, far)) h))

    pub grows_to : (e i : ℕ) → e ≤ i → i ≤ Far → Has (edge p e) ≡ true → Has (edge p i) ≡ true
    grows_to e i le far h = let z : e + (i - e) ≡ i = omega (arith, le) in subst (λ k. Has (edge p k) ≡ true) z (grows (i - e) e (omega (arith, le, far)) h)

    -- ---- the past of an item

    module _ (l : Lies) (within : l.edge ≤ Far) where
      -- its last edge has a race in its past, or one leads to the synchronization that it is
      pub unclean_has : is_clean program s p l ≡ false → (Has (edge p l.edge) ≡ true) ⊎ ((l.ends ≡ true) × (leads_from_race program Rec (races_among (edges_of_story program s)) (edge p l.edge) ≡ true))
      unclean_has h =
          let f = edge_of_race (is_item_past program s p l) (races_among (edges_of_story program s)) (not_false (any_raced (is_item_past program s p l) (races_among (edges_of_story program s))) h) in
          elim (either (is_past program (record_of s) (edge p l.edge) f.0) (l.ends && is_before program (record_of s) (node f.0.process f.0.edge) (node p l.edge)) f.2) [
            | inl past ↦ inl (race_of_edge (is_past program Rec (edge p l.edge)) (races_among (edges_of_story program s)) f.0 f.1 past)
            | inr leads ↦
                let b = both l.ends (is_before program (record_of s) (node f.0.process f.0.edge) (node p l.edge)) leads in
                inr (b.0, race_of_edge (λ a. is_before program Rec (node a.process a.edge) (node p l.edge)) (races_among (edges_of_story program s)) f.0 f.1 b.1)
          ]
        where
          not_false : (b : Bool) → not b ≡ false → b ≡ true
          not_false true e = refl
          not_false false e = absurd (true≢false e)

      pub has_unclean : Has (edge p l.edge) ≡ true → is_clean program s p l ≡ false
      has_unclean h =
          let f = edge_of_race (is_past program Rec (edge p l.edge)) (races_among (edges_of_story program s)) h in
          ap not (race_of_edge (is_item_past program s p l) (races_among (edges_of_story program s)) f.0 f.1
          (or_left (is_past program (record_of s) (edge p l.edge) f.0) (l.ends && is_before program (record_of s) (node f.0.process f.0.edge) (node p l.edge)) f.2))

      pub leads_unclean : l.ends ≡ true → leads_from_race program Rec (races_among (edges_of_story program s)) (edge p l.edge) ≡ true → is_clean program s p l ≡ false
      leads_unclean ends h =
          let f = edge_of_race (λ a. is_before program Rec (node a.process a.edge) (node p l.edge)) (races_among (edges_of_story program s)) h in
          ap not (race_of_edge (is_item_past program s p l) (races_among (edges_of_story program s)) f.0 f.1
          (or_right (is_past program (record_of s) (edge p l.edge) f.0) (l.ends && is_before program (record_of s) (node f.0.process f.0.edge) (node p l.edge))
          (and_from l.ends (is_before program (record_of s) (node f.0.process f.0.edge) (node p l.edge)) ends f.2)))
