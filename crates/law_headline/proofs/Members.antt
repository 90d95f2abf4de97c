-- Members of lists, by recursion, and of lists that are joined, mapped and filtered.
use Rattle.std.proofs.Common.{◌≡◌, ◌⊎◌, ℕ, zero, suc, ◌+◌, ◌<◌, ◌≤◌, Bool, true, false, cond, Some, List, [], ◌∷◌, ◌++◌, Contains, arith, filter, flat_map, get_or, inl, inr, length, map, refl, ap, slice_get, sym, subst, ◌∙◌, true≢false}
use Rattle.std.proofs.lemmas.Bool.{cases_lt, or_cases, or_left, or_right}
use Rattle.std.specs.List.{list_any, range_with_len}

abbrev pub Member : {A : Type 0} → A → List A → Type 0
Member x [] = ⊥
Member x (y ∷ ys) = (x ≡ y) ⊎ Member x ys

-- ---- by place

of_place : {A : Type 0} (xs : List A) (x : A) (k : ℕ) → k < length xs → get_or xs k x ≡ x → Member x xs
of_place [] x k lt e = absurd (omega (arith, lt))
of_place (z ∷ xs) x zero lt e = inl (sym e)
of_place (z ∷ xs) x (suc k) lt e = inr (of_place xs x k (omega (arith, lt)) e)

pub of_contains : {A : Type 0} (xs : List A) (x : A) → Contains xs x → Member x xs
of_contains xs x c = of_place xs x c.0 c.1 c.2

pub in_contains : {A : Type 0} (xs : List A) (x : A) → Member x xs → Contains xs x
in_contains [] x m = absurd m
in_contains (z ∷ xs) x (inl e) = (0, omega arith, sym e)
in_contains (z ∷ xs) x (inr m) =
    let w = in_contains xs x m in
    let lt = w.1 in (suc w.0, omega (arith, lt), w.2)

pub at_place : {A : Type 0} (xs : List A) (x : A) → Member x xs → (k : ℕ) × (slice_get xs k ≡ Some x)
at_place [] x m = absurd m
at_place (z ∷ xs) x (inl e) = (0, ap Some (sym e))
at_place (z ∷ xs) x (inr m) = let w = at_place xs x m in (suc w.0, w.1)

-- ---- of joined lists

left : {A : Type 0} (x : A) (xs ys : List A) → Member x xs → Member x (xs ++ ys)
left x [] ys m = absurd m
left x (z ∷ xs) ys (inl e) = inl e
left x (z ∷ xs) ys (inr m) = inr (left x xs ys m)

right : {A : Type 0} (x : A) (xs ys : List A) → Member x ys → Member x (xs ++ ys)
right x [] ys m = m
right x (z ∷ xs) ys m = inr (right x xs ys m)

pub either : {A : Type 0} (x : A) (xs ys : List A) → Member x (xs ++ ys) → Member x xs ⊎ Member x ys
either x [] ys m = inr m
either x (z ∷ xs) ys (inl e) = inl (inl e)
either x (z ∷ xs) ys (inr m) = elim (either x xs ys m) [ inl a ↦ inl (inr a) | inr b ↦ inr b ]

pub in_flat : {A B : Type 0} (f : A → List B) (x : A) (y : B) (xs : List A) → Member x xs → Member y (f x) → Member y (flat_map f xs)
in_flat f x y [] m n = absurd m
in_flat f x y (z ∷ xs) (inl e) n = left y (f z) (flat_map f xs) (subst (λ w. Member y (f w)) e n)
in_flat f x y (z ∷ xs) (inr m) n = right y (f z) (flat_map f xs) (in_flat f x y xs m n)

pub of_flat : {A B : Type 0} (f : A → List B) (y : B) (xs : List A) → Member y (flat_map f xs) → (x : A) × Member x xs × Member y (f x)
of_flat f y [] m = absurd m
of_flat f y (z ∷ xs) m = elim (either y (f z) (flat_map f xs) m) [
  | inl a ↦ (z, inl refl, a)
  | inr b ↦ let w = of_flat f y xs b in (w.0, inr w.1, w.2)
]

-- ---- of mapped and filtered lists

pub in_map : {A B : Type 0} (f : A → B) (x : A) (xs : List A) → Member x xs → Member (f x) (map f xs)
in_map f x [] m = absurd m
in_map f x (z ∷ xs) (inl e) = inl (ap f e)
in_map f x (z ∷ xs) (inr m) = inr (in_map f x xs m)

pub of_map : {A B : Type 0} (f : A → B) (y : B) (xs : List A) → Member y (map f xs) → (x : A) × Member x xs × (y ≡ f x)
of_map f y [] m = absurd m
of_map f y (z ∷ xs) (inl e) = (z, inl refl, e)
of_map f y (z ∷ xs) (inr m) = let w = of_map f y xs m in (w.0, inr w.1, w.2)

of_kept : {A : Type 0} (test : A → Bool) (x z : A) (xs ys : List A) (b : Bool) → test z ≡ b → (Member x ys → Member x xs × (test x ≡ true)) → Member x (cond b (z ∷ ys) ys) → Member x (z ∷ xs) × (test x ≡ true)
of_kept test x z xs ys true e f (inl s) = (inl s, ap test s ∙ e)
of_kept test x z xs ys true e f (inr m) = let w = f m in (inr w.0, w.1)
of_kept test x z xs ys false e f m = let w = f m in (inr w.0, w.1)

pub of_filter : {A : Type 0} (test : A → Bool) (x : A) (xs : List A) → Member x (filter test xs) → Member x xs × (test x ≡ true)
of_filter test x [] m = absurd m
of_filter test x (z ∷ xs) m = of_kept test x z xs (filter test xs) (test z) refl (of_filter test x xs) m

in_kept : {A : Type 0} (test : A → Bool) (x z : A) (ys : List A) (b : Bool) → test z ≡ b → test x ≡ true → (x ≡ z) ⊎ Member x ys → Member x (cond b (z ∷ ys) ys)
in_kept test x z ys true e t m = m
in_kept test x z ys false e t (inl s) = absurd (true≢false (sym t ∙ ap test s ∙ e))
in_kept test x z ys false e t (inr m) = m

pub in_filter : {A : Type 0} (test : A → Bool) (x : A) (xs : List A) → Member x xs → test x ≡ true → Member x (filter test xs)
in_filter test x [] m t = absurd m
in_filter test x (z ∷ xs) (inl s) t = in_kept test x z (filter test xs) (test z) refl t (inl s)
in_filter test x (z ∷ xs) (inr m) t = in_kept test x z (filter test xs) (test z) refl t (inr (in_filter test x xs m t))

-- ---- of ranges

pub in_range : (a n x : ℕ) → a ≤ x → x < a + n → Member x (range_with_len a n)
in_range a zero x le lt = absurd (omega (arith, le, lt))
in_range a (suc n) x le lt = elim (cases_lt a x) [
  | inl less ↦ inr (in_range (a + 1) n x (omega (arith, less)) (omega (arith, lt)))
  | inr ge ↦ inl (omega (arith, le, ge))
]

pub of_range : (a n x : ℕ) → Member x (range_with_len a n) → (a ≤ x) × (x < a + n)
of_range a zero x m = absurd m
of_range a (suc n) x (inl e) = (omega (arith, e), omega (arith, e))
of_range a (suc n) x (inr m) =
    let w = of_range (a + 1) n x m in
    let low = w.0 in
    let high = w.1 in (omega (arith, low), omega (arith, high))

-- ---- of what passes a test

pub of_any : {A : Type 0} (test : A → Bool) (xs : List A) → list_any test xs ≡ true → (x : A) × Member x xs × (test x ≡ true)
of_any test [] e = absurd (true≢false (sym e))
of_any test (z ∷ xs) e = elim (or_cases (test z) (list_any test xs) e) [
  | inl t ↦ (z, inl refl, t)
  | inr r ↦ let w = of_any test xs r in (w.0, inr w.1, w.2)
]

pub in_any : {A : Type 0} (test : A → Bool) (x : A) (xs : List A) → Member x xs → test x ≡ true → list_any test xs ≡ true
in_any test x [] m t = absurd m
in_any test x (z ∷ xs) (inl s) t = or_left (test z) (list_any test xs) (ap test (sym s) ∙ t)
in_any test x (z ∷ xs) (inr m) t = or_right (test z) (list_any test xs) (in_any test x xs m t)
