-- Laws of `has`.
use Rattle.std.proofs.Common.{◌≡◌, ℕ, zero, suc, ◌+◌, ◌<◌, List, [], ◌∷◌, ◌++◌, Bool, true, false, refl, sym, subst, ap, ◌∙◌, arith, inl, inr, ◌⊎◌, ◌-◌, ◌≤◌, length, get_or, true≢false, cond}
use Rattle.std.specs.Prelude.{IsTrue, nat_eq}
use Rattle.std.specs.List.{All, flat_map, range_with_len, filter, list_any}
use Rattle.std.proofs.lemmas.Bool.{or_left, or_right, or_cases, eqb-true, eq-eqb}
use Rattle.ppd_ast.specs.Members.{has}

pub has_first : (x : ℕ) (xs : List ℕ) → IsTrue (has (x ∷ xs) x)
has_first x xs = or_left (nat_eq x x) (has xs x) (eq-eqb x x refl)

pub has_later : (y x : ℕ) (xs : List ℕ) → IsTrue (has xs x) → IsTrue (has (y ∷ xs) x)
has_later y x xs h = or_right (nat_eq y x) (has xs x) h

pub has_cons : (y x : ℕ) (xs : List ℕ) → IsTrue (has (y ∷ xs) x) → (y ≡ x) ⊎ IsTrue (has xs x)
has_cons y x xs h = elim (or_cases (nat_eq y x) (has xs x) h) [ inl e ↦ inl (eqb-true y x e) | inr t ↦ inr t ]

pub has_left : (xs ys : List ℕ) (x : ℕ) → IsTrue (has xs x) → IsTrue (has (xs ++ ys) x)
has_left [] ys x h = absurd (true≢false (sym h))
has_left (y ∷ xs) ys x h =
    elim (or_cases (nat_eq y x) (has xs x) h) [ inl e ↦ or_left (nat_eq y x) (has (xs ++ ys) x) e | inr t ↦ or_right (nat_eq y x) (has (xs ++ ys) x) (has_left xs ys x t) ]

pub has_right : (xs ys : List ℕ) (x : ℕ) → IsTrue (has ys x) → IsTrue (has (xs ++ ys) x)
has_right [] ys x h = h
has_right (y ∷ xs) ys x h = or_right (nat_eq y x) (has (xs ++ ys) x) (has_right xs ys x h)

pub has_cases : (xs ys : List ℕ) (x : ℕ) → IsTrue (has (xs ++ ys) x) → IsTrue (has xs x) ⊎ IsTrue (has ys x)
has_cases [] ys x h = inr h
has_cases (y ∷ xs) ys x h =
    elim (or_cases (nat_eq y x) (has (xs ++ ys) x) h) [
      | inl e ↦ inl (or_left (nat_eq y x) (has xs x) e)
      | inr t ↦ elim (has_cases xs ys x t) [ inl a ↦ inl (or_right (nat_eq y x) (has xs x) a) | inr b ↦ inr b ]
    ]

kept_by : (b : Bool) (y x : ℕ) (xs : List ℕ) → IsTrue (has (cond b (y ∷ xs) xs) x) → ((y ≡ x) × IsTrue b) ⊎ IsTrue (has xs x)
kept_by true y x xs h = elim (has_cons y x xs h) [ inl e ↦ inl (e, refl) | inr t ↦ inr t ]
kept_by false y x xs h = inr h

kept_on : (b : Bool) (y x : ℕ) (xs : List ℕ) → IsTrue (has xs x) → IsTrue (has (cond b (y ∷ xs) xs) x)
kept_on true y x xs h = has_later y x xs h
kept_on false y x xs h = h

kept_here : (b : Bool) (y : ℕ) (xs : List ℕ) → IsTrue b → IsTrue (has (cond b (y ∷ xs) xs) y)
kept_here true y xs h = has_first y xs
kept_here false y xs h = absurd (true≢false (sym h))

pub has_filter : (test : ℕ → Bool) (xs : List ℕ) (x : ℕ) → IsTrue (has (filter test xs) x) → IsTrue (has xs x) × IsTrue (test x)
has_filter test [] x h = absurd (true≢false (sym h))
has_filter test (y ∷ xs) x h =
    elim (kept_by (test y) y x (filter test xs) h) [
      | inl e ↦ (subst (λ z. IsTrue (has (y ∷ xs) z)) e.0 (has_first y xs), subst (λ z. IsTrue (test z)) e.0 e.1)
      | inr t ↦ (has_later y x xs (has_filter test xs x t).0, (has_filter test xs x t).1)
    ]

pub filter_has : (test : ℕ → Bool) (xs : List ℕ) (x : ℕ) → IsTrue (has xs x) → IsTrue (test x) → IsTrue (has (filter test xs) x)
filter_has test [] x h t = h
filter_has test (y ∷ xs) x h t =
    elim (has_cons y x xs h) [
      | inl e ↦ subst (λ z. IsTrue (has (filter test (y ∷ xs)) z)) e (kept_here (test y) y (filter test xs) (subst (λ z. IsTrue (test z)) (sym e) t))
      | inr l ↦ kept_on (test y) y x (filter test xs) (filter_has test xs x l t)
    ]

pub any_from : (test : ℕ → Bool) (xs : List ℕ) (x : ℕ) → IsTrue (has xs x) → IsTrue (test x) → IsTrue (list_any test xs)
any_from test [] x h t = h
any_from test (y ∷ xs) x h t =
    elim (has_cons y x xs h) [
      | inl e ↦ or_left (test y) (list_any test xs) (subst (λ z. IsTrue (test z)) (sym e) t)
      | inr l ↦ or_right (test y) (list_any test xs) (any_from test xs x l t)
    ]

pub any_gives : (test : ℕ → Bool) (xs : List ℕ) → IsTrue (list_any test xs) → (x : ℕ) × IsTrue (has xs x) × IsTrue (test x)
any_gives test [] h = absurd (true≢false (sym h))
any_gives test (y ∷ xs) h =
    elim (or_cases (test y) (list_any test xs) h) [
      | inl t ↦ (y, has_first y xs, t)
      | inr l ↦ let more = any_gives test xs l in (more.0, has_later y more.0 xs more.1, more.2)
    ]

in_range : (a n k : ℕ) → k < n → IsTrue (has (range_with_len a n) (a + k))
in_range a zero k h = absurd (omega arith)
in_range a (suc n) zero h = let e : a ≡ a + zero = omega arith in subst (λ x. IsTrue (has (a ∷ range_with_len (a + 1) n) x)) e (has_first a (range_with_len (a + 1) n))
in_range a (suc n) (suc k) h =
    let e : (a + 1) + k ≡ a + suc k = omega arith in
    has_later a (a + suc k) (range_with_len (a + 1) n) (subst (λ x. IsTrue (has (range_with_len (a + 1) n) x)) e (in_range (a + 1) n k (omega arith)))

pub from_zero : (k n : ℕ) → k < n → IsTrue (has (range_with_len 0 n) k)
from_zero k n h = let e : 0 + k ≡ k = omega arith in subst (λ x. IsTrue (has (range_with_len 0 n) x)) e (in_range 0 n k h)

pub in_bounds_has : (a n x : ℕ) → a ≤ x → x < a + n → IsTrue (has (range_with_len a n) x)
in_bounds_has a n x l h = let e : a + (x - a) ≡ x = omega arith in subst (λ y. IsTrue (has (range_with_len a n) y)) e (in_range a n (x - a) (omega arith))

pub below_range : (a n x : ℕ) → IsTrue (has (range_with_len a n) x) → (a ≤ x) × (x < a + n)
below_range a zero x h = absurd (true≢false (sym h))
below_range a (suc n) x h =
    elim (has_cons a x (range_with_len (a + 1) n) h) [
      | inl e ↦ (omega arith, omega arith)
      | inr t ↦ (let more = below_range (a + 1) n x t in (omega (arith, more.0), omega (arith, more.1)))
    ]

pub flat_gives : (f : ℕ → List ℕ) (xs : List ℕ) (y : ℕ) → IsTrue (has (flat_map f xs) y) → (x : ℕ) × IsTrue (has xs x) × IsTrue (has (f x) y)
flat_gives f [] y h = absurd (true≢false (sym h))
flat_gives f (x ∷ xs) y h =
    elim (has_cases (f x) (flat_map f xs) y h) [
      | inl e ↦ (x, has_first x xs, e)
      | inr t ↦ let more = flat_gives f xs y t in (more.0, has_later x more.0 xs more.1, more.2)
    ]

pub flat_from : (f : ℕ → List ℕ) (xs : List ℕ) (x y : ℕ) → IsTrue (has xs x) → IsTrue (has (f x) y) → IsTrue (has (flat_map f xs) y)
flat_from f [] x y h k = absurd (true≢false (sym h))
flat_from f (z ∷ xs) x y h k =
    elim (has_cons z x xs h) [
      | inl e ↦ has_left (f z) (flat_map f xs) y (subst (λ w. IsTrue (has (f w) y)) (sym e) k)
      | inr t ↦ has_right (f z) (flat_map f xs) y (flat_from f xs x y t k)
    ]

-- a number of the list stands at some place of it
pub has_place : (xs : List ℕ) (x : ℕ) → IsTrue (has xs x) → (k : ℕ) × (k < length xs) × (get_or xs k 0 ≡ x)
has_place [] x h = absurd (true≢false (sym h))
has_place (y ∷ xs) x h =
    elim (has_cons y x xs h) [
      | inl e ↦ (zero, omega arith, e)
      | inr t ↦ (let more = has_place xs x t in (suc more.0, (let below = more.1 in omega (arith, below)), more.2))
    ]

-- what holds of each element of a list
pub all_has : (P : ℕ → Type 0) (xs : List ℕ) (x : ℕ) → All P xs → IsTrue (has xs x) → P x
all_has P xs x all h = let place = has_place xs x h in subst P place.2 (all place.0 0 place.1)

pub filter_same_in : (p q : ℕ → Bool) (xs : List ℕ) → ((x : ℕ) → IsTrue (has xs x) → p x ≡ q x) → filter p xs ≡ filter q xs
filter_same_in p q [] e = refl
filter_same_in p q (x ∷ xs) e =
    ap (λ b. cond b (x ∷ filter p xs) (filter p xs)) (e x (has_first x xs)) ∙ ap (λ zs. cond (q x) (x ∷ zs) zs) (filter_same_in p q xs (λ y h. e y (has_later x y xs h)))
