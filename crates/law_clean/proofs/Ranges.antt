-- The first number of a range that passes a test, and the last one.
use Rattle.std.proofs.Common.{◌≡◌, ℕ, zero, suc, ◌+◌, ◌-◌, ◌<◌, ◌≤◌, Bool, true, false, List, [], ◌∷◌, Option, Some, None, refl, ap, sym, subst, ◌∙◌, arith, inl, inr, ◌⊎◌, true≢false, if◌then◌else◌}
use Rattle.std.proofs.lemmas.Bool.{cases_eq}
use Rattle.std.proofs.lemmas.Option.{none-some}
use Rattle.std.specs.List.{range_with_len}
use Rattle.std.specs.Prelude.{find, fold}
use Rattle.ppd_model.proofs.Changes.{some}

module _ (t : ℕ → Bool) where
  -- none of them passes
  abbrev pub NonePasses : ℕ → ℕ → Type 0
  NonePasses from to = (i : ℕ) → from ≤ i → i < to → t i ≡ false

  -- this one passes, and none before it
  pub record IsFirst (from to u : ℕ) : Type 0 where
    pub from_is : from ≤ u
    pub to_is : u < to
    pub passes : t u ≡ true
    pub none : NonePasses from u

  first_of : (n from : ℕ) → ((find t (range_with_len from n) ≡ None) × NonePasses from (from + n)) ⊎ ((u : ℕ) × (find t (range_with_len from n) ≡ Some u) × IsFirst from (from + n) u)
  first_of zero from = inl (refl, λ i le lt. absurd (omega (arith, le, lt)))
  first_of (suc n) from = by (t from) refl (first_of n (from + 1))
    where
      by : (b : Bool) → t from ≡ b → ((find t (range_with_len (from + 1) n) ≡ None) × NonePasses (from + 1) ((from + 1) + n)) ⊎ ((u : ℕ) × (find t (range_with_len (from + 1) n) ≡ Some u) × IsFirst (from + 1) ((from + 1) + n) u)
          → (((if b then Some from else find t (range_with_len (from + 1) n)) ≡ None) × NonePasses from (from + suc n)) ⊎ ((u : ℕ) × ((if b then Some from else find t (range_with_len (from + 1) n)) ≡ Some u) × IsFirst from (from + suc n) u)
      by true e later = inr (from, refl, record { from_is = omega arith; to_is = omega arith; passes = e; none = λ i le lt. absurd (omega (arith, le, lt)) })
      by false e (inl none) = inl (
        none.0,
        λ i le lt. elim (cases_eq i from) [
          | inl same ↦ ap t same ∙ e
          | inr other ↦ none.1 i (omega (arith, le, other)) (omega (arith, lt))
        ],
      )
      by false e (inr found) =
          let f = found.2 in
          let a : from + 1 ≤ found.0 = f.from_is in
          let b : found.0 < (from + 1) + n = f.to_is in
          inr (
            found.0,
            found.1,
            record {
              from_is = omega (arith, a);
              to_is = omega (arith, b);
              passes = f.passes;
              none = λ i le lt. elim (cases_eq i from) [
                | inl same ↦ ap t same ∙ e
                | inr other ↦ f.none i (omega (arith, le, other)) lt
              ];
            },
          )

  -- of edges from one through another
  pub first_between : (from to : ℕ) → ((find t (range_with_len from (to + 1 - from)) ≡ None) × NonePasses from (to + 1)) ⊎ ((u : ℕ) × (find t (range_with_len from (to + 1 - from)) ≡ Some u) × IsFirst from (to + 1) u)
  first_between from to = elim (first_of (to + 1 - from) from) [
    | inl none ↦ inl (none.0, λ i le lt. none.1 i le (omega (arith, le, lt)))
    | inr found ↦
        let f = found.2 in
        let a : from ≤ found.0 = f.from_is in
        let b : found.0 < from + (to + 1 - from) = f.to_is in
        inr (found.0, found.1, record { from_is = a; to_is = omega (arith, a, b); passes = f.passes; none = f.none })
  ]

  pub is_none : (from to : ℕ) → NonePasses from (to + 1) → find t (range_with_len from (to + 1 - from)) ≡ None
  is_none from to none = elim (first_between from to) [
    | inl found ↦ found.0
    | inr found ↦ (let f = found.2 in absurd (true≢false (sym f.passes ∙ none found.0 f.from_is f.to_is)))
  ]

  pub is_first : (from to u : ℕ) → IsFirst from (to + 1) u → find t (range_with_len from (to + 1 - from)) ≡ Some u
  is_first from to u f = elim (first_between from to) [
    | inl none ↦ absurd (true≢false (sym f.passes ∙ none.1 u f.from_is f.to_is))
    | inr found ↦ found.1 ∙ ap (λ i. Some i) (same found.0 found.2)
  ]
    where
      same : (w : ℕ) → IsFirst from (to + 1) w → w ≡ u
      same w g = elim (cases_eq w u) [
        | inl is ↦ is
        | inr other ↦ (let a : from ≤ w = g.from_is in let b : from ≤ u = f.from_is in
            absurd (elim (order w u other) [
              | inl below ↦ true≢false (sym g.passes ∙ f.none w a below)
              | inr above ↦ true≢false (sym f.passes ∙ g.none u b above)
            ]))
      ]
        where
          order : (a b : ℕ) → (a ≡ b → ⊥) → (a < b) ⊎ (b < a)
          order zero zero n = absurd (n refl)
          order zero (suc b) n = inl (omega arith)
          order (suc a) zero n = inr (omega arith)
          order (suc a) (suc b) n = elim (order a b (λ e. n (ap (λ z. suc z) e))) [ inl l ↦ inl (omega (arith, l)) | inr g ↦ inr (omega (arith, g)) ]

  -- ---- the last of a range

  abbrev pub last_in : Option ℕ → List ℕ → Option ℕ
  last_in found is = fold (λ found i. if t i then Some i else found) found is

  -- what was found, or a later one
  last_or : (n from : ℕ) (found : Option ℕ) → (last_in found (range_with_len from n) ≡ found) ⊎ ((i : ℕ) × (last_in found (range_with_len from n) ≡ Some i) × (from ≤ i) × (i < from + n) × (t i ≡ true))
  last_or zero from found = inl refl
  last_or (suc n) from found = by (t from) refl (λ o. last_or n (from + 1) o)
    where
      wider : (o : Option ℕ) (i : ℕ) → (from + 1 ≤ i) × (i < (from + 1) + n) → (from ≤ i) × (i < from + suc n)
      wider o i b = (let x = b.0 in omega (arith, x), let y = b.1 in omega (arith, y))

      by : (b : Bool) → t from ≡ b → ((o : Option ℕ) → (last_in o (range_with_len (from + 1) n) ≡ o) ⊎ ((i : ℕ) × (last_in o (range_with_len (from + 1) n) ≡ Some i) × (from + 1 ≤ i) × (i < (from + 1) + n) × (t i ≡ true))) → (last_in (if b then Some from else found) (range_with_len (from + 1) n) ≡ found) ⊎ ((i : ℕ) × (last_in (if b then Some from else found) (range_with_len (from + 1) n) ≡ Some i) × (from ≤ i) × (i < from + suc n) × (t i ≡ true))
      by true e later = elim (later (Some from)) [
        | inl same ↦ inr (from, same, omega arith, omega arith, e)
        | inr r ↦ (let w = wider (Some from) r.0 (r.2, r.3) in inr (r.0, r.1, w.0, w.1, r.4))
      ]
      by false e later = elim (later found) [
        | inl same ↦ inl same
        | inr r ↦ (let w = wider found r.0 (r.2, r.3) in inr (r.0, r.1, w.0, w.1, r.4))
      ]

  pub last_is : (n from : ℕ) (found : Option ℕ) (e : ℕ) → from ≤ e → e < from + n → t e ≡ true → (i : ℕ) × (last_in found (range_with_len from n) ≡ Some i) × (e ≤ i) × (i < from + n) × (t i ≡ true)
  last_is zero from found e le lt h = absurd (omega (arith, le, lt))
  last_is (suc n) from found e le lt h = elim (cases_eq e from) [
    | inr other ↦
        let r = last_is n (from + 1) (if t from then Some from else found) e (omega (arith, le, other)) (omega (arith, lt)) h in
        (r.0, r.1, r.2, (let y = r.3 in omega (arith, y)), r.4)
    | inl same ↦
        let here : (if t from then Some from else found) ≡ Some from = ap (λ b. if b then Some from else found) (ap t (sym same) ∙ h) in
        elim (last_or n (from + 1) (if t from then Some from else found)) [
          | inl still ↦ (from, still ∙ here, omega (arith, same), omega arith, ap t (sym same) ∙ h)
          | inr r ↦ (r.0, r.1, (let x = r.2 in omega (arith, x, same)), (let y = r.3 in omega (arith, y)), r.4)
        ]
  ]
