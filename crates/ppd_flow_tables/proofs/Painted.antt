-- Numbers written at the places of a range.
use Rattle.std.proofs.Common.{◌≡◌, ℕ, ◌+◌, ◌<◌, ◌≤◌, true, false, ◌&&◌, List, refl, ap, ap₂, sym, ◌∙◌, arith, inl, inr, ◌⊎◌, get_or, length, lt-ltb, slice_set, if◌then◌else◌}
use Rattle.std.specs.Prelude.{nat_le, nat_lt, replicate}
use Rattle.std.proofs.Math.Bool.{and-false}
use Rattle.std.proofs.lemmas.Bool.{cases_eq, cases_lt, le-ltb}
use Rattle.std.proofs.lemmas.List.{get_or-replicate, get_or-set_other, get_or-set_same, length-set}

-- the number stands after place `first` and before place n, and what was there elsewhere
pub record ArePainted (old now : List ℕ) (first n number : ℕ) : Type 0 where
  pub long : length now ≡ length old
  pub is : (m : ℕ) → m < length old → get_or now m 0 ≡ (if nat_lt first m && nat_lt m n then number else get_or old m 0)

outside : (first m n : ℕ) → (first < m → m < n → ⊥) → (nat_lt first m && nat_lt m n) ≡ false
outside first m n none = elim (cases_lt first m) [
  | inl after ↦ ap (λ b. nat_lt first m && b) (le-ltb m n (omega (arith, none after))) ∙ and-false (nat_lt first m)
  | inr before ↦ ap (λ b. b && nat_lt m n) (le-ltb first m before)
]

inside : (first m n : ℕ) → first < m → m < n → (nat_lt first m && nat_lt m n) ≡ true
inside first m n after before = ap₂ (λ a b. a && b) (lt-ltb first m after) (lt-ltb m n before)

pub none_painted : (old : List ℕ) (first n number : ℕ) → n ≡ first + 1 → ArePainted old old first n number
none_painted old first n number e = record {
  long = refl;
  is = λ m lt. ap (λ b. if b then number else get_or old m 0)
      (sym (outside first m n (λ after before. omega (arith, e, after, before))));
}

pub more_painted : (old now now' : List ℕ) (first n number : ℕ) → ArePainted old now first n number → first < n
    → now' ≡ slice_set now n number → ArePainted old now' first (n + 1) number
more_painted old now now' first n number h after e = record {
  long = ap length e ∙ length-set now n number ∙ h.long;
  is = λ m lt. ap (λ (xs : List ℕ). get_or xs m 0) e
      ∙ elim (cases_eq m n) [
        | inl same ↦
            let long = h.long in
            ap (λ k. get_or (slice_set now n number) k 0) same ∙ get_or-set_same now n number 0
            (omega (arith, same, lt, long))
            ∙ ap (λ b. if b then number else get_or old m 0)
            (sym (inside first m (n + 1) (omega (arith, same, after)) (omega (arith, same))))
        | inr other ↦
            get_or-set_other now n m number 0 other ∙ h.is m lt
            ∙ ap (λ b. if nat_lt first m && b then number else get_or old m 0) (elim (cases_lt m n) [
              | inl less ↦ lt-ltb m n less ∙ sym (lt-ltb m (n + 1) (omega (arith, less)))
              | inr more ↦ le-ltb m n more ∙ sym (le-ltb m (n + 1) (omega (arith, more, other)))
            ])
      ];
}

-- up to the last
pub all_painted : (old now : List ℕ) (first n last number : ℕ) → ArePainted old now first n number
    → (n ≤ last + 1) ⊎ (n ≡ first + 1) → last + 1 ≤ n → (m : ℕ) → m < length old
    → get_or now m 0 ≡ (if nat_lt first m && nat_le m last then number else get_or old m 0)
all_painted old now first n last number h to over m lt =
    h.is m lt ∙ ap (λ b. if b then number else get_or old m 0) (elim to [
      | inl up ↦ let e : n ≡ last + 1 = omega (arith, up, over) in ap (λ k. nat_lt first m && nat_lt m k) e ∙ ap
          (λ b. nat_lt first m && b) (same m last)
      | inr e ↦ outside first m n (λ after before. omega (arith, e, after, before)) ∙ sym (none e)
    ])
  where
    same : (m last : ℕ) → nat_lt m (last + 1) ≡ nat_le m last
    same m last = elim (cases_lt last m) [
      | inl less ↦ le-ltb m (last + 1) (omega (arith, less)) ∙ sym (search (arith, less))
      | inr more ↦ lt-ltb m (last + 1) (omega (arith, more)) ∙ sym (search (arith, more))
    ]

    none : n ≡ first + 1 → (nat_lt first m && nat_le m last) ≡ false
    none e = ap (λ b. nat_lt first m && b) (sym (same m last)) ∙ outside first m (last + 1)
        (λ after before. omega (arith, e, over, after, before))

pub zero_there : (count n : ℕ) (zeros : List ℕ) → zeros ≡ replicate count 0 → n < count → get_or zeros n 0 ≡ 0
zero_there count n zeros e lt = ap (λ (xs : List ℕ). get_or xs n 0) e ∙ get_or-replicate count n 0 0 lt
