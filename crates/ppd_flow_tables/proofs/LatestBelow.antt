-- The last edge of each process serves for all its edges.
use Rattle.std.proofs.Common.{◌≡◌, ℕ, zero, suc, ◌+◌, ◌<◌, ◌≤◌, Bool, true, false, cond, List, [], ◌∷◌, Option, Some, None, refl, ap, sym, subst, ◌∙◌, arith, length, inl, inr, ◌⊎◌}
use Rattle.std.specs.Prelude.{⊤, filter, nat_lt, ◌&&◌, if◌then◌else◌}
use Rattle.std.proofs.lemmas.Bool.{lt-ltb, ltb-true}
use Rattle.std.proofs.lemmas.Option.{none-some}
use Rattle.ppd_ast.specs.Members.{has}
use Rattle.ppd_flow_past.specs.Edges.Found.{greatest_in}
use Rattle.ppd_graph.specs.declared.sets.EdgeSets.{EdgeSets}
use Rattle.ppd_model.specs.declared.graph.EdgeId.{EdgeId}
use Rattle.ppd_model.specs.HappenedBefore.{edge}
use Rattle.ppd_model.proofs.Changes.{some}
use Rattle.ppd_graph.specs.Shared.{greater}
use Rattle.ppd_flow_tables.specs.LatestEdges.{last_below, last_or, later_if, numbers_in}

-- ---- last elements

-- with and without a first element
last_more : (o : Option ℕ) (m : ℕ) (ns : List ℕ) → ((last_or o ns ≡ o) × (last_or (Some m) ns ≡ Some m)) ⊎ ((n : ℕ) × (last_or o ns ≡ Some n) × (last_or (Some m) ns ≡ Some n))
last_more o m [] = inl (refl, refl)
last_more o m (n ∷ ns) = inr (found n ns)
  where
    found : (k : ℕ) (ks : List ℕ) → (n : ℕ) × (last_or (Some k) ks ≡ Some n) × (last_or (Some k) ks ≡ Some n)
    found k [] = (k, refl, refl)
    found k (j ∷ js) = found j js

-- what holds of each of them holds of the last
abbrev AllBelow : ℕ → ℕ → List ℕ → Type 0
AllBelow low high [] = ⊤
AllBelow low high (n ∷ ns) = (low ≤ n) × (n < high) × AllBelow low high ns

last_within : (low high : ℕ) (o : Option ℕ) (ns : List ℕ) (n : ℕ) → (o ≡ None) → AllBelow low high ns → last_or o ns ≡ Some n → (low ≤ n) × (n < high)
last_within low high o [] n none h e = absurd (none-some n (sym none ∙ e))
last_within low high o (m ∷ ms) n none h e = by m ms h.0 h.1 h.2 e
  where
    by : (k : ℕ) (ks : List ℕ) → low ≤ k → k < high → AllBelow low high ks → last_or (Some k) ks ≡ Some n → (low ≤ n) × (n < high)
    by k [] a b h' f = let same : k ≡ n = cc in (subst (λ z. low ≤ z) same a, subst (λ z. z < high) same b)
    by k (j ∷ js) a b h' f = by j js h'.0 h'.1 h'.2 f

-- ---- one process

module _ (before : EdgeId → EdgeId → Bool) (e : EdgeId) (c q limit count : ℕ)
    (within : (i : ℕ) → i < count → before (edge q i) e ≡ nat_lt i limit)
    (orders : (i n : ℕ) → i < count → n < count → before (edge q i) (edge q n) ≡ nat_lt i n) where
  -- what is before an edge of the process is before its later ones
  abbrev pub Goes : Option EdgeId → Type 0
  Goes best = (b : EdgeId) → best ≡ Some b → (i n : ℕ) → i < n → n < count → before b (edge q i) ≡ true → before b (edge q n) ≡ true

  goes_own : (i : ℕ) → i < count → Goes (Some (edge q i))
  goes_own i lt b same j n less le h =
      let is : b ≡ edge q i = sym (some same) in
      let near : nat_lt i j ≡ true = sym (orders i j lt (omega (arith, less, le))) ∙ ap (λ z. before z (edge q j)) (sym is) ∙ h in
      let lower : i < j = ltb-true i j near in
      ap (λ z. before z (edge q n)) is ∙ orders i n lt le ∙ lt-ltb i n (omega (arith, lower, less))

  -- a later edge of the process takes the place of an earlier one
  over : (best : Option EdgeId) (i n : ℕ) → i < n → n < count → Goes best → greater before (greater before best (edge q i)) (edge q n) ≡ greater before best (edge q n)
  over None i n less le goes =
      ap (λ b. if b then Some (edge q n) else Some (edge q i)) (orders i n (omega (arith, less, le)) le ∙ lt-ltb i n less)
  over (Some b) i n less le goes = by (before b (edge q i)) refl
    where
      by : (t : Bool) → before b (edge q i) ≡ t → greater before (if t then Some (edge q i) else Some b) (edge q n) ≡ (if before b (edge q n) then Some (edge q n) else Some b)
      by true h =
          ap (λ b. if b then Some (edge q n) else Some (edge q i)) (orders i n (omega (arith, less, le)) le ∙ lt-ltb i n less)
          ∙ sym (ap (λ t. if t then Some (edge q n) else Some b) (goes b refl i n less le h))
      by false h = refl

  later_over : (best : Option EdgeId) (i : ℕ) (o : Option ℕ) → ((n : ℕ) → o ≡ Some n → (i < n) × (n < count)) → Goes best
      → later_if before q (greater before best (edge q i)) o ≡ later_if before q best (elim o [ None ↦ Some i | Some n ↦ Some n ])
  later_over best i None h goes = refl
  later_over best i (Some n) h goes = let r = h n refl in over best i n r.0 r.1 goes

  goes_greater : (best : Option EdgeId) (i : ℕ) → i < count → Goes best → Goes (greater before best (edge q i))
  goes_greater None i lt goes = goes_own i lt
  goes_greater (Some b) i lt goes = by (before b (edge q i))
    where
      by : (t : Bool) → Goes (if t then Some (edge q i) else Some b)
      by true = goes_own i lt
      by false = goes

  rows_from : (i : ℕ) (ss : List EdgeSets) → i + length ss ≡ count → AllBelow i count (filter (λ n. nat_lt n limit) (numbers_in c i ss))
  rows_from i [] e' = tt
  rows_from i (s ∷ ss) e' = by (has s.writes c) (nat_lt i limit) (raised (filter (λ n. nat_lt n limit) (numbers_in c (i + 1) ss)) (rows_from (i + 1) ss (omega (arith, e'))))
    where
      raised : (ns : List ℕ) → AllBelow (i + 1) count ns → AllBelow i count ns
      raised [] h = tt
      raised (n ∷ ns) h = let a = h.0 in (omega (arith, a), h.1, raised ns h.2)

      by : (w t : Bool) → AllBelow i count (filter (λ n. nat_lt n limit) (numbers_in c (i + 1) ss)) → AllBelow i count (filter (λ n. nat_lt n limit) (if w then i ∷ numbers_in c (i + 1) ss else numbers_in c (i + 1) ss))
      by false t h = h
      by true t h = more (nat_lt i limit)
        where
          more : (b : Bool) → AllBelow i count (cond b (i ∷ filter (λ n. nat_lt n limit) (numbers_in c (i + 1) ss)) (filter (λ n. nat_lt n limit) (numbers_in c (i + 1) ss)))
          more true = (omega arith, omega (arith, e'), h)
          more false = h

  abbrev later_from : ℕ → List EdgeSets → List ℕ
  later_from i ss = filter (λ n. nat_lt n limit) (numbers_in c (i + 1) ss)

  -- the last of the edges below the limit serves for all
  pub one_process : (i : ℕ) (best : Option EdgeId) (ss : List EdgeSets) → i + length ss ≡ count → Goes best
      → greatest_in before c (Some e) q i best ss ≡ later_if before q best (last_below limit (numbers_in c i ss))
  one_process i best [] e' goes = refl
  one_process i best (s ∷ ss) e' goes = by (has s.writes c) (nat_lt i limit) refl (λ b g. one_process (i + 1) b ss (omega (arith, e')) g)
    where
      lt : i < count
      lt = omega (arith, e')

      bounds : (n : ℕ) → last_or None (later_from i ss) ≡ Some n → (i < n) × (n < count)
      bounds n h = let r = last_within (i + 1) count None (later_from i ss) n refl (rows_from (i + 1) ss (omega (arith, e'))) h in let a = r.0 in (omega (arith, a), r.1)

      first_last : elim (last_or None (later_from i ss)) [ None ↦ Some i | Some n ↦ Some n ] ≡ last_or (Some i) (later_from i ss)
      first_last = elim (last_more None i (later_from i ss)) [
        | inl r ↦ ap (λ o. elim o [ None ↦ Some i | Some n ↦ Some n ]) r.0 ∙ sym r.1
        | inr r ↦ ap (λ o. elim o [ None ↦ Some i | Some n ↦ Some n ]) r.1 ∙ sym r.2
      ]

      by : (w t : Bool) → nat_lt i limit ≡ t
          → ((b : Option EdgeId) → Goes b → greatest_in before c (Some e) q (i + 1) b ss ≡ later_if before q b (last_below limit (numbers_in c (i + 1) ss)))
          → greatest_in before c (Some e) q (i + 1) (if w && before (edge q i) e then greater before best (edge q i) else best) ss
          ≡ later_if before q best (last_or None (filter (λ n. nat_lt n limit) (if w then i ∷ numbers_in c (i + 1) ss else numbers_in c (i + 1) ss)))
      by false t h go = go best goes
      by true true h go =
          ap (λ b. greatest_in before c (Some e) q (i + 1) (if b then greater before best (edge q i) else best) ss) (within i lt ∙ h)
          ∙ go (greater before best (edge q i)) (goes_greater best i lt goes)
          ∙ later_over best i (last_or None (later_from i ss)) bounds goes
          ∙ ap (later_if before q best) first_last
          ∙ sym (ap (λ b. later_if before q best (last_or None (cond b (i ∷ (later_from i ss)) (later_from i ss)))) h)
      by true false h go =
          ap (λ b. greatest_in before c (Some e) q (i + 1) (if b then greater before best (edge q i) else best) ss) (within i lt ∙ h)
          ∙ go best goes
          ∙ sym (ap (λ b. later_if before q best (last_or None (cond b (i ∷ (later_from i ss)) (later_from i ss)))) h)

  -- the best after the process is the best before it or one of its edges
  pub later_there : (P : EdgeId → Type 0) (best : Option EdgeId) → ((b : EdgeId) → best ≡ Some b → P b) → ((i : ℕ) → i < count → P (edge q i))
      → (ss : List EdgeSets) → length ss ≡ count
      → (b : EdgeId) → later_if before q best (last_below limit (numbers_in c 0 ss)) ≡ Some b → P b
  later_there P best was own ss long b h = by (last_below limit (numbers_in c 0 ss)) refl h
    where
      pick : (n : ℕ) → n < count → (best' : Option EdgeId) → ((b : EdgeId) → best' ≡ Some b → P b) → greater before best' (edge q n) ≡ Some b → P b
      pick n lt None w f = subst P (some f) (own n lt)
      pick n lt (Some a) w f = choose (before a (edge q n)) f
        where
          choose : (t : Bool) → (if t then Some (edge q n) else Some a) ≡ Some b → P b
          choose true g = subst P (some g) (own n lt)
          choose false g = w b g

      by : (o : Option ℕ) → last_below limit (numbers_in c 0 ss) ≡ o → later_if before q best o ≡ Some b → P b
      by None e' f = was b f
      by (Some n) e' f = pick n (last_within 0 count None (filter (λ k. nat_lt k limit) (numbers_in c 0 ss)) n refl (rows_from 0 ss (omega (arith, long))) e').1 best was f
