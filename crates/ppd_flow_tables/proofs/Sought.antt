-- What is found among keys in order.
use Rattle.std.proofs.Common.{◌≡◌, ℕ, zero, suc, ◌-◌, ◌*◌, ◌/◌, ◌%◌, ◌^◌, ◌<◌, ◌≤◌, Bool, true, false, ◌&&◌, ◌||◌, List, [], ◌∷◌, ◌++◌, Option, Some, None, refl, ap, ap₂, sym, ◌∙◌, arith, inl, inr, get_or, length, eq-eqb, ne_eqb}
use Rattle.std.specs.Prelude.{nat_eq}
use Rattle.std.specs.List.Sorted.{IsNonDecreasing}
use Rattle.std.proofs.Math.Bool.{and-false, or-false, or-true}
use Rattle.std.proofs.lemmas.Bool.{cases_eq, cases_lt}
use Rattle.ppd_ast.specs.Members.{has}
use Rattle.ppd_flow_tables.specs.Listed.{IsFirstUnder, IsLastUnder, IsPlaceUnder, key}
use Rattle.ppd_flow_tables.specs.Writing.{IsCut}

-- ---- one key

pub place_there : (n k : ℕ) → k / 2 ^ 32 ≡ n → IsPlaceUnder n k (Some (k % 2 ^ 32))
place_there n k e = (omega arith, omega (arith, e))

pub place_not_there : (n k : ℕ) → (k / 2 ^ 32 ≡ n → ⊥) → IsPlaceUnder n k None
place_not_there n k other i lt is = other (omega (arith, lt, is))

-- ---- a key among others

pub has_not : (ks : List ℕ) (x : ℕ) → ((k : ℕ) → k < length ks → get_or ks k 0 ≡ x → ⊥) → has ks x ≡ false
has_not [] x none = refl
has_not (y ∷ ks) x none =
    ap₂ (λ a b. a || b) (ne_eqb y x (none 0 (omega arith)))
    (has_not ks x (λ k lt e. none (suc k) (omega (arith, lt)) e))

pub has_at : (ks : List ℕ) (x k : ℕ) → k < length ks → get_or ks k 0 ≡ x → has ks x ≡ true
has_at [] x k lt e = absurd (omega (arith, lt))
has_at (y ∷ ks) x zero lt e = ap (λ b. b || has ks x) (eq-eqb y x e)
has_at (y ∷ ks) x (suc k) lt e = ap (λ b. nat_eq y x || b) (has_at ks x k (omega (arith, lt)) e) ∙ or-true (nat_eq y x)

-- ---- keys in order

module _ (ks : List ℕ) (rises : IsNonDecreasing ks) (n most c : ℕ) (cut : IsCut (key n most) ks c) where
  below : (k : ℕ) → k < c → get_or ks k 0 < key n most
  below k lt = cut.first k 0 lt

  above : (k : ℕ) → c ≤ k → k < length ks → key n most ≤ get_or ks k 0
  above k le within = cut.others k 0 le within

  up_to : (j k : ℕ) → j ≤ k → k < length ks → get_or ks j 0 ≤ get_or ks k 0
  up_to j k le within = rises j k 0 le within

  -- the first from the cut on
  first_none : most ≡ 0 → length ks ≤ c → IsFirstUnder ks n None
  first_none e over i lt =
      has_not ks (key n i) (λ k within is. let less = below k (omega (arith, over, within)) in omega
      (arith, e, less, is))

  first_other : most ≡ 0 → c < length ks → IsPlaceUnder n (get_or ks c 0) None → IsFirstUnder ks n None
  first_other e there other i lt =
      let least = above c (omega arith) there in
      has_not ks (key n i) (λ k within is.
      elim (cases_lt k c) [
        | inl before ↦ let less = below k before in omega (arith, e, less, is)
        | inr after ↦
            let more = up_to c k after within in
            other (get_or ks c 0 - n * 2 ^ 32) (omega (arith, e, more, is, lt, least)) (omega (arith, e, least))
      ])

  first_found : most ≡ 0 → c < length ks → (i : ℕ) → IsPlaceUnder n (get_or ks c 0) (Some i) → IsFirstUnder ks n
      (Some i)
  first_found e there i h = (
    h.0,
    has_at ks (key n i) c there h.1,
    λ j lt. has_not ks (key n j) (λ k within is.
        elim (cases_lt k c) [
          | inl before ↦ let less = below k before in omega (arith, e, less, is)
          | inr after ↦ let more = up_to c k after within in let at = h.1 in omega (arith, more, is, lt, at)
        ]),
  )

  pub first_is : most ≡ 0 → c < length ks → (o : Option ℕ) → IsPlaceUnder n (get_or ks c 0) o → IsFirstUnder ks n o
  first_is e there None h = first_other e there h
  first_is e there (Some i) h = first_found e there i h

  pub first_past : most ≡ 0 → c ≡ length ks → IsFirstUnder ks n None
  first_past e over = first_none e (omega (arith, over))

  -- the last before the cut
  pub last_none : c ≡ 0 → IsLastUnder ks n most None
  last_none e i lt fits =
      has_not ks (key n i) (λ k within is. let more = above k (omega (arith, e)) within in omega (arith, more, is, lt))

  last_other : most < 2 ^ 32 → 0 < c → IsPlaceUnder n (get_or ks (c - 1) 0) None → IsLastUnder ks n most None
  last_other small some other i lt fits =
      let less = below (c - 1) (omega (arith, some)) in
      has_not ks (key n i) (λ k within is.
      elim (cases_lt k c) [
        | inl before ↦
            let in_keys = cut.within in
            let more = up_to k (c - 1) (omega (arith, before)) (omega (arith, some, in_keys)) in
            other (get_or ks (c - 1) 0 - n * 2 ^ 32) (omega (arith, less, small)) (omega (arith, more, is))
        | inr after ↦ let more = above k after within in omega (arith, more, is, lt)
      ])

  last_found : 0 < c → (i : ℕ) → IsPlaceUnder n (get_or ks (c - 1) 0) (Some i) → IsLastUnder ks n most (Some i)
  last_found some i h =
      let in_keys = cut.within in
      let at = h.1 in
      let less = below (c - 1) (omega (arith, some)) in (
        omega (arith, less, at),
        h.0,
        has_at ks (key n i) (c - 1) (omega (arith, some, in_keys)) at,
        λ j lt before_most fits. has_not ks (key n j) (λ k within is.
            elim (cases_lt k c) [
              | inl before ↦
                  let more = up_to k (c - 1) (omega (arith, before)) (omega (arith, some, in_keys)) in
                  omega (arith, more, is, lt, at)
              | inr after ↦ let more = above k after within in omega (arith, more, is, before_most)
            ]),
      )

  pub last_is : most < 2 ^ 32 → (c ≡ 0 → ⊥) → (o : Option ℕ) → IsPlaceUnder n (get_or ks (c - 1) 0) o
      → IsLastUnder ks n most o
  last_is small other None h = last_other small (omega (arith, other)) h
  last_is small other (Some i) h = last_found (omega (arith, other)) i h

-- ---- one key more

same_key : (a i n j : ℕ) → i < 2 ^ 32 → j < 2 ^ 32 → nat_eq (key a i) (key n j) ≡ (nat_eq i j && nat_eq n a)
same_key a i n j small small' = elim (cases_eq i j) [
  | inl e ↦ elim (cases_eq a n) [
    | inl f ↦ eq-eqb (key a i) (key n j) (omega (arith, e, f)) ∙ sym
        (ap₂ (λ x y. x && y) (eq-eqb i j e) (eq-eqb n a (sym f)))
    | inr f ↦
        ne_eqb (key a i) (key n j) (λ g. f (omega (arith, e, g)))
        ∙ sym (ap (λ x. nat_eq i j && x) (ne_eqb n a (λ g. f (sym g))) ∙ and-false (nat_eq i j))
  ]
  | inr e ↦
      ne_eqb (key a i) (key n j) (λ g. e (omega (arith, g, small, small')))
      ∙ sym (ap (λ x. x && nat_eq n a) (ne_eqb i j e))
]

has_more : (ks : List ℕ) (x y : ℕ) → has (ks ++ x ∷ []) y ≡ (has ks y || nat_eq x y)
has_more [] x y = or-false (nat_eq x y)
has_more (k ∷ ks) x y = ap (λ b. nat_eq k y || b) (has_more ks x y) ∙ or_assoc (nat_eq k y) (has ks y) (nat_eq x y)
  where
    or_assoc : (a b c : Bool) → (a || (b || c)) ≡ ((a || b) || c)
    or_assoc true b c = refl
    or_assoc false b c = refl

pub pushed : (ks ks' : List ℕ) (x a i : ℕ) → i < 2 ^ 32 → x ≡ key a i → ks' ≡ ks ++ x ∷ []
    → (n j : ℕ) → j < 2 ^ 32 → has ks' (key n j) ≡ (has ks (key n j) || (nat_eq i j && nat_eq n a))
pushed ks ks' x a i small is e n j small' =
    ap (λ l. has l (key n j)) (e ∙ ap (λ y. ks ++ y ∷ []) is) ∙ has_more ks (key a i) (key n j)
    ∙ ap (λ b. has ks (key n j) || b) (same_key a i n j small small')

-- where nothing is added
pub not_pushed : (b : Bool) (p q : Bool) → b ≡ (b || (p && (false && q)))
not_pushed b p q = sym (ap (λ c. b || c) (and-false p) ∙ or-false b)
