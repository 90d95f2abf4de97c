-- Item j of an interval is that of its part j, where no part is dropped.
use Rattle.std.proofs.Common.{◌≡◌, ℕ, zero, suc, ◌+◌, ◌≤◌, List, [], ◌∷◌, ◌++◌, Option, Some, None, refl, ap, sym, ◌∙◌, arith, length, length-append}
use Rattle.std.specs.Prelude.{slice_get}
use Rattle.std.specs.List.{flat_map}
use Rattle.ppd_model.specs.declared.flow.Item.{Item}
use Rattle.ppd_model.specs.declared.trace.TracedEvent.{TracedEvent}
use Rattle.ppd_model.specs.Intervals.{Part, own, nested, Span, Split, item_of}
use Rattle.ppd_model.proofs.IntervalWords.{item_of_event, item_of_span}

-- the first of these, if there is one
abbrev pub first_of : {A : Type 0} → List A → Option A
first_of [] = None
first_of (x ∷ xs) = Some x

abbrev pub item_if : Split → Option Part → Option Item
item_if x None = None
item_if x (Some q) = first_of (item_of x q)

module _ (x : Split) where
  few : (q : Part) → length (item_of x q) ≤ 1
  few (own n) = by (slice_get x.trace.events n)
    where
      by : (o : Option TracedEvent) → length (item_of_event o) ≤ 1
      by None = omega arith
      by (Some e) = omega arith
  few (nested m) = by (slice_get x.spans m)
    where
      by : (o : Option Span) → length (item_of_span m o) ≤ 1
      by None = omega arith
      by (Some i) = omega arith

  all_few : (ps : List Part) → length (flat_map (item_of x) ps) ≤ length ps
  all_few [] = omega arith
  all_few (q ∷ ps) =
      let a : length (item_of x q) ≤ 1 = few q in
      let b : length (flat_map (item_of x) ps) ≤ length ps = all_few ps in
      let c : length (item_of x q ++ flat_map (item_of x) ps) ≡ length (item_of x q) + length (flat_map (item_of x) ps) = length-append (item_of x q) (flat_map (item_of x) ps) in
      omega (arith, a, b, c)

  -- where no part is dropped
  pub item_at : (ps : List Part) (j : ℕ) → length (flat_map (item_of x) ps) ≡ length ps → slice_get (flat_map (item_of x) ps) j ≡ item_if x (slice_get ps j)
  item_at [] j e = refl
  item_at (q ∷ ps) j e = by (item_of x q) refl j (item_at ps)
    where
      rest : length (flat_map (item_of x) ps) ≤ length ps
      rest = all_few ps

      again : (is : List Item) → item_of x q ≡ is → length is ≡ 1 → length (flat_map (item_of x) ps) ≡ length ps
      again is f l = let c : length (item_of x q ++ flat_map (item_of x) ps) ≡ length (item_of x q) + length (flat_map (item_of x) ps) = length-append (item_of x q) (flat_map (item_of x) ps) in let d : length (item_of x q) ≡ 1 = ap length f ∙ l in omega (arith, c, d, e)

      by : (is : List Item) → item_of x q ≡ is → (i : ℕ) → ((m : ℕ) → length (flat_map (item_of x) ps) ≡ length ps → slice_get (flat_map (item_of x) ps) m ≡ item_if x (slice_get ps m)) → slice_get (item_of x q ++ flat_map (item_of x) ps) i ≡ item_if x (slice_get (q ∷ ps) i)
      by [] f i later = absurd (let c : length (item_of x q ++ flat_map (item_of x) ps) ≡ length (item_of x q) + length (flat_map (item_of x) ps) = length-append (item_of x q) (flat_map (item_of x) ps) in let d : length (item_of x q) ≡ 0 = ap length f in let r = rest in omega (arith, c, d, e, r))
      by (t ∷ u ∷ is) f i later = absurd (let a : length (item_of x q) ≤ 1 = few q in let d : length (item_of x q) ≡ suc (suc (length is)) = ap length f in omega (arith, a, d))
      by (t ∷ []) f zero later = ap (λ l. slice_get (l ++ flat_map (item_of x) ps) 0) f ∙ sym (ap first_of f)
      by (t ∷ []) f (suc i) later = ap (λ l. slice_get (l ++ flat_map (item_of x) ps) (suc i)) f ∙ later i (again (t ∷ []) f refl)
