-- Members of lists.
use Rattle.std.proofs.Common.{◌≡◌, List, [], ◌∷◌, ◌++◌, Bool, true, false, cond, refl, ap, subst, sym, ◌∙◌, filter, inl, inr, ◌⊎◌}
use Rattle.ppd_model.proofs.Tested.{In, here, there}

pub no_member : {A : Type 0} {x : A} → In x [] → ⊥
no_member m = elim m [ ]

-- the first one, or one of the others
pub in_cases : {A : Type 0} (x y : A) (xs : List A) → In x (y ∷ xs) → (x ≡ y) ⊎ In x xs
in_cases x y xs here = inl refl
in_cases x y xs (there m) = inr m

pub in_first : {A : Type 0} (x y : A) (xs : List A) → x ≡ y → In x (y ∷ xs)
in_first x y xs e = subst (λ z. In x (z ∷ xs)) e here

pub in_either : {A : Type 0} (x : A) (xs ys : List A) → In x (xs ++ ys) → In x xs ⊎ In x ys
in_either x [] ys m = inr m
in_either x (z ∷ xs) ys m = elim (in_cases x z (xs ++ ys) m) [
  | inl e ↦ inl (in_first x z xs e)
  | inr m' ↦ elim (in_either x xs ys m') [ inl a ↦ inl (there a) | inr b ↦ inr b ]
]

-- ---- those that pass a test

pub filter_in : {A : Type 0} (t : A → Bool) (x : A) (xs : List A) → In x xs → t x ≡ true → In x (filter t xs)
filter_in t x [] m e = absurd (no_member m)
filter_in t x (y ∷ xs) m e = elim (in_cases x y xs m) [
  | inl same ↦ subst (λ b. In x (cond b (y ∷ filter t xs) (filter t xs))) (sym (ap t (sym same) ∙ e)) (in_first x y (filter t xs) same)
  | inr m' ↦ by (t y) (filter_in t x xs m' e)
]
  where
    by : (b : Bool) → In x (filter t xs) → In x (cond b (y ∷ filter t xs) (filter t xs))
    by true k = there k
    by false k = k

pub in_filter : {A : Type 0} (t : A → Bool) (x : A) (xs : List A) → In x (filter t xs) → In x xs × (t x ≡ true)
in_filter t x [] m = absurd (no_member m)
in_filter t x (y ∷ xs) m = by (t y) refl m (in_filter t x xs)
  where
    by : (b : Bool) → t y ≡ b → In x (cond b (y ∷ filter t xs) (filter t xs)) → (In x (filter t xs) → In x xs × (t x ≡ true)) → In x (y ∷ xs) × (t x ≡ true)
    by true e k rest = elim (in_cases x y (filter t xs) k) [
      | inl same ↦ (in_first x y xs same, ap t same ∙ e)
      | inr k' ↦ let r = rest k' in (there r.0, r.1)
    ]
    by false e k rest = let r = rest k in (there r.0, r.1)

pub filter_none : {A : Type 0} (t : A → Bool) (xs : List A) → ((x : A) → In x xs → t x ≡ false) → filter t xs ≡ []
filter_none t [] h = refl
filter_none t (x ∷ xs) h = ap (λ b. cond b (x ∷ filter t xs) (filter t xs)) (h x here) ∙ filter_none t xs (λ y m. h y (there m))

pub empty_if : {A : Type 0} (xs : List A) → ((x : A) → In x xs → ⊥) → xs ≡ []
empty_if [] h = refl
empty_if (x ∷ xs) h = absurd (h x here)
