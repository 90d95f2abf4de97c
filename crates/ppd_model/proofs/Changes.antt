-- A list with one element changed.
use Rattle.std.proofs.Common.{◌≡◌, ℕ, zero, suc, ◌<◌, List, [], ◌∷◌, Some, None, refl, ap, arith, length, get_or}
use Rattle.std.specs.Prelude.{option_map, slice_get}
use Rattle.ppd_model.specs.World.{change}

pub some : {A : Type 0} {x y : A} → Some x ≡ Some y → x ≡ y
some {x = x} e = ap (λ o. elim o [ None ↦ x | Some z ↦ z ]) e

pub change-at : {A : Type 0} (f : A → A) (p : ℕ) (xs : List A) → slice_get (change f p xs) p ≡ option_map f (slice_get xs p)
change-at f p [] = refl
change-at f zero (x ∷ xs) = refl
change-at f (suc p) (x ∷ xs) = change-at f p xs

pub change-else : {A : Type 0} (f : A → A) (p q : ℕ) (xs : List A) → (q ≡ p → ⊥) → slice_get (change f p xs) q ≡ slice_get xs q
change-else f p q [] d = refl
change-else f zero zero (x ∷ xs) d = absurd (d refl)
change-else f zero (suc q) (x ∷ xs) d = refl
change-else f (suc p) zero (x ∷ xs) d = refl
change-else f (suc p) (suc q) (x ∷ xs) d = change-else f p q xs (λ e. d (ap (λ n. suc n) e))

pub own-at : {A : Type 0} (f : A → A) (p : ℕ) (d : A) (xs : List A) → p < length xs → get_or (change f p xs) p d ≡ f (get_or xs p d)
own-at f p d [] h = absurd (omega arith)
own-at f zero d (x ∷ xs) h = refl
own-at f (suc p) d (x ∷ xs) h = own-at f p d xs (omega arith)

pub own-else : {A : Type 0} (f : A → A) (p q : ℕ) (d : A) (xs : List A) → (q ≡ p → ⊥) → get_or (change f p xs) q d ≡ get_or xs q d
own-else f p q d [] e = refl
own-else f zero zero d (x ∷ xs) e = absurd (e refl)
own-else f zero (suc q) d (x ∷ xs) e = refl
own-else f (suc p) zero d (x ∷ xs) e = refl
own-else f (suc p) (suc q) d (x ∷ xs) e = own-else f p q d xs (λ n. e (ap (λ k. suc k) n))

pub length-change : {A : Type 0} (f : A → A) (p : ℕ) (xs : List A) → length (change f p xs) ≡ length xs
length-change f p [] = refl
length-change f zero (x ∷ xs) = refl
length-change f (suc p) (x ∷ xs) = ap (λ n. suc n) (length-change f p xs)

-- a change that changes nothing
pub change-none : {A : Type 0} (f : A → A) (p : ℕ) (xs : List A) → ((x : A) → f x ≡ x) → change f p xs ≡ xs
change-none f p [] same = refl
change-none f zero (x ∷ xs) same = ap (λ y. y ∷ xs) (same x)
change-none f (suc p) (x ∷ xs) same = ap (λ ys. x ∷ ys) (change-none f p xs same)
