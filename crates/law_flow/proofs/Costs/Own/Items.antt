-- The intervals among the items of an interval, each once.
use Rattle.std.proofs.Common.{◌≡◌, ℕ, zero, suc, ℤ, Bool, true, false, List, [], ◌∷◌, ◌++◌, Option, Some, None, refl, ap, sym, ◌∙◌, subst, arith, true≢false, inl, inr}
use Rattle.std.specs.Prelude.{slice_get, take, is_some}
use Rattle.std.specs.List.{flat_map}
use Rattle.ppd_model.specs.declared.flow.Item.{Item}
use Rattle.ppd_model.specs.declared.flow.Item.TheVariants as item
use Rattle.ppd_model.specs.declared.trace.TracedEvent.{TracedEvent}
use Rattle.ppd_model.specs.Intervals.{Part, own, nested, Span, Split, item_of}
use Rattle.ppd_model.proofs.IntervalWords.{item_of_event, item_of_span}
use Rattle.ppd_model.proofs.Tested.{In, here as first_in, there as later_in}
use Rattle.law_flow.specs.Edges.Within.{AreDistinct}
use Rattle.law_flow.proofs.Edges.Near.Distinct.{not_in_list, out_of_list}
use Rattle.law_flow.proofs.Edges.Sources.Members.{in_cases, in_either, no_member}

-- ---- the intervals among items

abbrev pub numbers : List Item → List ℕ
numbers [] = []
numbers (item.Own e ∷ is) = numbers is
numbers (item.Nested m b vs c ∷ is) = m ∷ numbers is

abbrev number_of : Item → ℕ
number_of (item.Own e) = 0
number_of (item.Nested m b vs c) = m

abbrev block_of : Item → ℕ
block_of (item.Own e) = 0
block_of (item.Nested m b vs c) = b

abbrev is_interval : Item → Bool
is_interval (item.Own e) = false
is_interval (item.Nested m b vs c) = true

pub in_taken : {A : Type 0} (x : A) (n : ℕ) (xs : List A) → In x (take n xs) → In x xs
in_taken x zero ys i = absurd (no_member i)
in_taken x (suc n) [] i = i
in_taken x (suc n) (y ∷ ys) i = elim (in_cases x y (take n ys) i) [ inl e ↦ subst (λ z. In x (z ∷ ys)) e first_in | inr j ↦ later_in (in_taken x n ys j) ]

number_taken : (z n : ℕ) (is : List Item) → In z (numbers (take n is)) → In z (numbers is)
number_taken z zero is i = absurd (no_member i)
number_taken z (suc n) [] i = i
number_taken z (suc n) (item.Own e ∷ is) i = number_taken z n is i
number_taken z (suc n) (item.Nested m b vs c ∷ is) i = elim (in_cases z m (numbers (take n is)) i) [ inl e ↦ subst (λ y. In z (y ∷ numbers is)) e first_in | inr j ↦ later_in (number_taken z n is j) ]

pub distinct_taken : (n : ℕ) (is : List Item) → AreDistinct (numbers is) → AreDistinct (numbers (take n is))
distinct_taken zero is h = tt
distinct_taken (suc n) [] h = h
distinct_taken (suc n) (item.Own e ∷ is) h = distinct_taken n is h
distinct_taken (suc n) (item.Nested m b vs c ∷ is) h = (not_in_list m (numbers (take n is)) (λ i. out_of_list m (numbers is) h.0 (number_taken m n is i)), distinct_taken n is h.1)

module _ (x : Split) where
  abbrev items_in : List Part → List Item
  items_in ps = flat_map (item_of x) ps

  -- an interval among the items is a part
  pub nested_in : (ps : List Part) (m b : ℕ) (vs : List ℤ) (c : Bool) → In (item.Nested m b vs c) (flat_map (item_of x) ps)
      → (s : Span) × (slice_get x.spans m ≡ Some s) × (b ≡ s.block) × (j : ℕ) × (slice_get ps j ≡ Some (nested m))
  nested_in [] m b vs c i = absurd (no_member i)
  nested_in (q ∷ ps) m b vs c i = elim (in_either (item.Nested m b vs c) (item_of x q) (items_in ps) i) [
    | inr later ↦ let r = nested_in ps m b vs c later in (r.0, r.1, r.2, suc r.3, r.4)
    | inl now ↦ by q now
  ]
    where
      by_event : (o : Option TracedEvent) → In (item.Nested m b vs c) (item_of_event o) → ⊥
      by_event None j = no_member j
      by_event (Some e) j = elim (in_cases (item.Nested m b vs c) (item.Own e.event) [] j) [
        | inl same ↦ true≢false (ap is_interval same)
        | inr k ↦ no_member k
      ]

      by_span : (k : ℕ) (o : Option Span) → slice_get x.spans k ≡ o → In (item.Nested m b vs c) (item_of_span k o)
          → (s : Span) × (slice_get x.spans m ≡ Some s) × (b ≡ s.block) × (j : ℕ) × (slice_get (nested k ∷ ps) j ≡ Some (nested m))
      by_span k None g j = absurd (no_member j)
      by_span k (Some s) g j = elim (in_cases (item.Nested m b vs c) (item.Nested k s.block s.values (is_some s.closed)) [] j) [
        | inl same ↦
            let number : m ≡ k = ap number_of same in
            (s, ap (λ z. slice_get x.spans z) number ∙ g, ap block_of same, 0, ap (λ z. Some (nested z)) (sym number))
        | inr l ↦ absurd (no_member l)
      ]

      by : (q : Part) → In (item.Nested m b vs c) (item_of x q) → (s : Span) × (slice_get x.spans m ≡ Some s) × (b ≡ s.block) × (j : ℕ) × (slice_get (q ∷ ps) j ≡ Some (nested m))
      by (own n) j = absurd (by_event (slice_get x.trace.events n) j)
      by (nested k) j = by_span k (slice_get x.spans k) refl j

  number_in : (ps : List Part) (z : ℕ) → In z (numbers (flat_map (item_of x) ps)) → (j : ℕ) × (slice_get ps j ≡ Some (nested z))
  number_in [] z i = absurd (no_member i)
  number_in (own n ∷ ps) z i = let r = number_in ps z (by (slice_get x.trace.events n) i) in (suc r.0, r.1)
    where
      by : (o : Option TracedEvent) → In z (numbers (item_of_event o ++ items_in ps)) → In z (numbers (items_in ps))
      by None j = j
      by (Some e) j = j
  number_in (nested k ∷ ps) z i = by (slice_get x.spans k) i (λ l. number_in ps z l)
    where
      on : (r : (j : ℕ) × (slice_get ps j ≡ Some (nested z))) → (j : ℕ) × (slice_get (nested k ∷ ps) j ≡ Some (nested z))
      on r = (suc r.0, r.1)

      by : (o : Option Span) → In z (numbers (item_of_span k o ++ items_in ps)) → (In z (numbers (items_in ps)) → (j : ℕ) × (slice_get ps j ≡ Some (nested z))) → (j : ℕ) × (slice_get (nested k ∷ ps) j ≡ Some (nested z))
      by None j later = on (later j)
      by (Some s) j later = elim (in_cases z k (numbers (items_in ps)) j) [
        | inl same ↦ (0, ap (λ y. Some (nested y)) (sym same))
        | inr l ↦ on (later l)
      ]

  pub distinct_numbers : (ps : List Part) → ((j j' m : ℕ) → slice_get ps j ≡ Some (nested m) → slice_get ps j' ≡ Some (nested m) → j ≡ j') → AreDistinct (numbers (flat_map (item_of x) ps))
  distinct_numbers [] once = tt
  distinct_numbers (own n ∷ ps) once = by (slice_get x.trace.events n) (distinct_numbers ps (λ j j' m e f. let s : suc j ≡ suc j' = once (suc j) (suc j') m e f in omega (arith, s)))
    where
      by : (o : Option TracedEvent) → AreDistinct (numbers (items_in ps)) → AreDistinct (numbers (item_of_event o ++ items_in ps))
      by None rest = rest
      by (Some e) rest = rest
  distinct_numbers (nested k ∷ ps) once = by (slice_get x.spans k) (distinct_numbers ps (λ j j' m e f. let s : suc j ≡ suc j' = once (suc j) (suc j') m e f in omega (arith, s)))
    where
      out : In k (numbers (flat_map (item_of x) ps)) → ⊥
      out i = let r = number_in ps k i in let s : 0 ≡ suc r.0 = once 0 (suc r.0) k refl r.1 in omega (arith, s)

      by : (o : Option Span) → AreDistinct (numbers (items_in ps)) → AreDistinct (numbers (item_of_span k o ++ items_in ps))
      by None rest = rest
      by (Some s) rest = (not_in_list k (numbers (items_in ps)) out, rest)
