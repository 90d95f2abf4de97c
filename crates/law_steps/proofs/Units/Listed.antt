-- What stands somewhere in a list, and the first element that passes a test.
use Rattle.std.proofs.Common.{◌≡◌, ℕ, zero, suc, ◌+◌, ◌<◌, List, [], ◌∷◌, ◌++◌, Bool, true, false, Some, None, refl, sym, ap, ◌∙◌, subst, inl, inr, cond, arith, length, true≢false}
use Rattle.std.specs.Prelude.{IsTrue, nat_lt, not, slice_get}
use Rattle.std.specs.List.{flat_map, position, position_or_len, enumerate_from}
use Rattle.std.proofs.lemmas.Bool.{cases_Bool, cond-true}
use Rattle.std.proofs.lemmas.Bool.Decides.{nat_tests}
use Rattle.std.proofs.lemmas.List.Quantifiers.{position-Some}
use Rattle.std.proofs.lemmas.Option.{get_or_from_slice_get}
use Rattle.ppd_ast.specs.declared.program.Body.{Body}
use Rattle.ppd_ast.proofs.ValidLaws.{slice_get_there}
use Rattle.ppd_ast.specs.Members.{has}
use Rattle.ppd_ast.proofs.Members.{has_cons}

-- ---- somewhere in a list

abbrev pub IsListed : {X : Type 0} → List X → X → Type 0
IsListed xs x = (i : ℕ) × (slice_get xs i ≡ Some x)

on_left : {X : Type 0} (xs ys : List X) (x : X) (i : ℕ) → slice_get xs i ≡ Some x → IsListed (xs ++ ys) x
on_left [] ys x i at = cc
on_left (y ∷ xs) ys x zero at = (zero, at)
on_left (y ∷ xs) ys x (suc i) at = let more : IsListed (xs ++ ys) x = on_left xs ys x i at in (suc more.0, more.1)

pub listed_left : {X : Type 0} (xs ys : List X) (x : X) → IsListed xs x → IsListed (xs ++ ys) x
listed_left xs ys x l = on_left xs ys x l.0 l.1

pub listed_right : {X : Type 0} (xs ys : List X) (x : X) → IsListed ys x → IsListed (xs ++ ys) x
listed_right [] ys x l = l
listed_right (y ∷ xs) ys x l = let more : IsListed (xs ++ ys) x = listed_right xs ys x l in (suc more.0, more.1)

pub listed_flat : {X : Type 0} (f : ℕ → List X) (ns : List ℕ) (n : ℕ) (x : X) → IsTrue (has ns n) → IsListed (f n) x → IsListed (flat_map f ns) x
listed_flat f [] n x h l = absurd (true≢false (sym h))
listed_flat f (m ∷ ns) n x h l = elim (has_cons m n ns h) [
  | inl e ↦ listed_left (f m) (flat_map f ns) x (subst (λ k. IsListed (f k) x) (sym e) l)
  | inr t ↦ listed_right (f m) (flat_map f ns) x (listed_flat f ns n x t l)
]

pub listed_each : {X : Type 0} (f : ℕ → Body → List X) (j : ℕ) (bs : List Body) (k : ℕ) (b : Body) (x : X) → slice_get bs k ≡ Some b → IsListed (f (j + k) b) x → IsListed (flat_map (λ e. f e.0 e.1) (enumerate_from j bs)) x
listed_each f j [] k b x at l = cc
listed_each f j (c ∷ bs) zero b x at l =
    let e : j + zero ≡ j = omega arith in
    let same : b ≡ c = cc in
    listed_left (f j c) (flat_map (λ e. f e.0 e.1) (enumerate_from (j + 1) bs)) x (subst (λ i. IsListed (f i c) x) e (subst (λ d. IsListed (f (j + zero) d) x) same l))
listed_each f j (c ∷ bs) (suc k) b x at l =
    let e : j + suc k ≡ (j + 1) + k = omega arith in
    listed_right (f j c) (flat_map (λ e. f e.0 e.1) (enumerate_from (j + 1) bs)) x (listed_each f (j + 1) bs k b x at (subst (λ i. IsListed (f i b) x) e l))

-- ---- the first that passes

module _ {X : Type 0} (test : X → Bool) where
  abbrev IsFound : List X → ℕ → Type 0
  IsFound xs n = (n < length xs) × (y : X) × (slice_get xs n ≡ Some y) × (test y ≡ true)

  later : (z x : X) (xs : List X) (i : ℕ) → slice_get (z ∷ xs) i ≡ Some x → test x ≡ true → test z ≡ false → ((j : ℕ) → slice_get xs j ≡ Some x → IsFound xs (position_or_len test xs))
      → IsFound (z ∷ xs) (suc (position_or_len test xs))
  later z x xs zero at is e rest = let same : z ≡ x = cc in absurd (true≢false (sym is ∙ ap test (sym same) ∙ e))
  later z x xs (suc j) at is e rest = let w : IsFound xs (position_or_len test xs) = rest j at in (omega (arith, w.0), w.1, w.2, w.3)

  first_of : (xs : List X) (i : ℕ) (x : X) → slice_get xs i ≡ Some x → test x ≡ true → IsFound xs (position_or_len test xs)
  first_of [] i x at is = cc
  first_of (z ∷ xs) i x at is = elim (cases_Bool (test z)) [
    | inl e ↦
        let zero_is : position_or_len test (z ∷ xs) ≡ 0 = ap (λ b. cond (not b) (1 + position_or_len test xs) 0) e in
        subst (IsFound (z ∷ xs)) (sym zero_is) (omega arith, z, refl, e)
    | inr e ↦
        let one_more : 1 + position_or_len test xs ≡ suc (position_or_len test xs) = omega arith in
        let next_is : position_or_len test (z ∷ xs) ≡ suc (position_or_len test xs) = ap (λ b. cond (not b) (1 + position_or_len test xs) 0) e ∙ one_more in
        subst (IsFound (z ∷ xs)) (sym next_is) (later z x xs i at is e (λ j here. first_of xs j x here is))
  ]

  -- one that passes is found
  pub found : (xs : List X) (i : ℕ) (x : X) → slice_get xs i ≡ Some x → test x ≡ true → (n : ℕ) × (y : X) × (position test xs ≡ Some n) × (slice_get xs n ≡ Some y) × (test y ≡ true)
  found xs i x at is =
      let w : IsFound xs (position_or_len test xs) = first_of xs i x at is in
      let below : position_or_len test xs < length xs = w.0 in
      let low : nat_lt (position_or_len test xs) (length xs) ≡ true = grind (arith, nat_tests) in
      (position_or_len test xs, w.1, cond-true (nat_lt (position_or_len test xs) (length xs)) (Some (position_or_len test xs)) None low, w.2, w.3)

  -- what is found passes
  pub found_passes : (xs : List X) (n : ℕ) → position test xs ≡ Some n → (y : X) × (slice_get xs n ≡ Some y) × (test y ≡ true)
  found_passes [] n e = cc
  found_passes (z ∷ xs) n e =
      let w = position-Some test (z ∷ xs) n z e in
      let y = slice_get_there (z ∷ xs) n w.0 in
      (y.0, y.1, subst (λ x. test x ≡ true) (get_or_from_slice_get (z ∷ xs) n y.0 z y.1) w.1)
