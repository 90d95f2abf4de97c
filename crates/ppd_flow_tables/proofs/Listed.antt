-- The edges that write a cell, as they are listed: they never fall, and the last below a limit is that of the edges,
-- each of which counts once.
use Rattle.std.proofs.Common.{◌≡◌, ℕ, zero, suc, ◌+◌, ◌<◌, ◌≤◌, Bool, true, false, cond, List, [], ◌∷◌, ◌++◌, Option, Some, None, refl, ap, sym, ◌∙◌, arith, filter, get_or, length}
use Rattle.std.specs.Prelude.{⊤, nat_eq, nat_lt, ◌&&◌, ◌||◌, if◌then◌else◌}
use Rattle.std.specs.List.Sorted.{IsNonDecreasing}
use Rattle.std.proofs.lemmas.Option.{none-some}
use Rattle.ppd_ast.specs.Members.{has}
use Rattle.ppd_graph.specs.declared.sets.EdgeSets.{EdgeSets}
use Rattle.ppd_model.specs.declared.graph.EdgeId.{EdgeId}
use Rattle.ppd_model.specs.HappenedBefore.{edge}
use Rattle.ppd_flow_tables.specs.LatestEdges.{last_below, last_or, later_if, numbers_in}
use Rattle.ppd_flow_tables.proofs.LatestBelow.{later_there}
use Rattle.ppd_flow_tables.specs.Writing.{listed_in, times_in}

-- ---- they never fall

-- each number is at least the one before it, and the first at least this
abbrev Climbs : ℕ → List ℕ → Type 0
Climbs low [] = ⊤
Climbs low (n ∷ ns) = (low ≤ n) × Climbs n ns

climbs_from : (low least : ℕ) (ns : List ℕ) → least ≤ low → Climbs low ns → Climbs least ns
climbs_from low least [] le h = tt
climbs_from low least (n ∷ ns) le h = let first = h.0 in (omega (arith, le, first), h.1)

times_climb : (c i : ℕ) (ws ns : List ℕ) → Climbs i ns → Climbs i (times_in c i ws ++ ns)
times_climb c i [] ns h = h
times_climb c i (w ∷ ws) ns h = by (nat_eq w c) (times_climb c i ws ns h)
  where
    by : (b : Bool) → Climbs i (times_in c i ws ++ ns) → Climbs i ((if b then i ∷ times_in c i ws else times_in c i ws) ++ ns)
    by true rest = (omega arith, rest)
    by false rest = rest

listed_climb : (c i : ℕ) (ss : List EdgeSets) → Climbs i (listed_in c i ss)
listed_climb c i [] = tt
listed_climb c i (s ∷ ss) = times_climb c i s.writes (listed_in c (i + 1) ss) (climbs_from (i + 1) i (listed_in c (i + 1) ss) (omega arith) (listed_climb c (i + 1) ss))

at_least : (low : ℕ) (ns : List ℕ) (k d : ℕ) → Climbs low ns → k < length ns → low ≤ get_or ns k d
at_least low [] k d h lt = absurd (omega (arith, lt))
at_least low (n ∷ ns) zero d h lt = h.0
at_least low (n ∷ ns) (suc k) d h lt = let first = h.0 in let rest = at_least n ns k d h.1 (omega (arith, lt)) in omega (arith, first, rest)

climbs_rise : (low : ℕ) (ns : List ℕ) (i j d : ℕ) → Climbs low ns → i ≤ j → j < length ns → get_or ns i d ≤ get_or ns j d
climbs_rise low [] i j d h le lt = absurd (omega (arith, lt))
climbs_rise low (n ∷ ns) zero zero d h le lt = omega arith
climbs_rise low (n ∷ ns) zero (suc j) d h le lt = at_least n ns j d h.1 (omega (arith, lt))
climbs_rise low (n ∷ ns) (suc i) zero d h le lt = absurd (omega (arith, le))
climbs_rise low (n ∷ ns) (suc i) (suc j) d h le lt = climbs_rise n ns i j d h.1 (omega (arith, le)) (omega (arith, lt))

pub listed_rise : (c : ℕ) (ss : List EdgeSets) → IsNonDecreasing (listed_in c 0 ss)
listed_rise c ss i j d le lt = climbs_rise 0 (listed_in c 0 ss) i j d (listed_climb c 0 ss) le lt

-- ---- the last below a limit

module _ (c limit : ℕ) where
  abbrev below : List ℕ → List ℕ
  below ns = filter (λ n. nat_lt n limit) ns

  -- the edge, where it writes the cell and is below the limit
  abbrev edge_or : Bool → ℕ → Option ℕ → Option ℕ
  edge_or w i o = if w && nat_lt i limit then Some i else o

  last_times : (i : ℕ) (ws ns : List ℕ) (o : Option ℕ) → last_or o (below (times_in c i ws ++ ns)) ≡ last_or (edge_or (has ws c) i o) (below ns)
  last_times i [] ns o = refl
  last_times i (w ∷ ws) ns o = by (nat_eq w c) (nat_lt i limit) refl (λ p. last_times i ws ns p)
    where
      never : (t : Bool) → (if t && false then Some i else o) ≡ o
      never true = refl
      never false = refl

      by : (t b : Bool) → nat_lt i limit ≡ b → ((p : Option ℕ) → last_or p (below (times_in c i ws ++ ns)) ≡ last_or (edge_or (has ws c) i p) (below ns))
          → last_or o (below ((if t then i ∷ times_in c i ws else times_in c i ws) ++ ns)) ≡ last_or (edge_or (t || has ws c) i o) (below ns)
      by false b e go = go o
      by true true e go =
          ap (λ u. last_or o (cond u (i ∷ below (times_in c i ws ++ ns)) (below (times_in c i ws ++ ns)))) e
          ∙ go (Some i)
          ∙ ap (λ p. last_or p (below ns)) (same (has ws c && nat_lt i limit) ∙ sym (ap (λ u. if u then Some i else o) e))
        where
          same : (t : Bool) → (if t then Some i else Some i) ≡ Some i
          same true = refl
          same false = refl
      by true false e go =
          ap (λ u. last_or o (cond u (i ∷ below (times_in c i ws ++ ns)) (below (times_in c i ws ++ ns)))) e
          ∙ go o
          ∙ ap (λ p. last_or p (below ns)) (ap (λ u. if has ws c && u then Some i else o) e ∙ never (has ws c) ∙ sym (ap (λ u. if u then Some i else o) e))

  last_number : (i : ℕ) (w : Bool) (ns : List ℕ) (o : Option ℕ) → last_or o (below (if w then i ∷ ns else ns)) ≡ last_or (edge_or w i o) (below ns)
  last_number i false ns o = refl
  last_number i true ns o = by (nat_lt i limit)
    where
      by : (b : Bool) → last_or o (cond b (i ∷ below ns) (below ns)) ≡ last_or (if b then Some i else o) (below ns)
      by true = refl
      by false = refl

  last_from : (i : ℕ) (ss : List EdgeSets) (o : Option ℕ) → last_or o (below (listed_in c i ss)) ≡ last_or o (below (numbers_in c i ss))
  last_from i [] o = refl
  last_from i (s ∷ ss) o =
      last_times i s.writes (listed_in c (i + 1) ss) o
      ∙ last_from (i + 1) ss (edge_or (has s.writes c) i o)
      ∙ sym (last_number i (has s.writes c) (numbers_in c (i + 1) ss) o)

  pub last_listed : (ss : List EdgeSets) → last_below limit (listed_in c 0 ss) ≡ last_below limit (numbers_in c 0 ss)
  last_listed ss = last_from 0 ss None

  -- it is one of the edges
  pub last_there : (ss : List EdgeSets) (n : ℕ) → last_below limit (numbers_in c 0 ss) ≡ Some n → n < length ss
  last_there ss n e =
      let before : EdgeId → EdgeId → Bool = λ a b. nat_lt a.edge b.edge in
      later_there before (edge 0 limit) c 0 limit (length ss) (λ i lt. refl) (λ i m lt less. refl) (λ a. a.edge < length ss) None (λ b h. absurd (none-some b h)) (λ i lt. lt) ss refl
      (edge 0 n) (ap (later_if before 0 None) e)
