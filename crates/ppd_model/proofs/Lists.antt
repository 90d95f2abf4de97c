-- Elements of lists by their places, mapped lists, and one element changed.
use Rattle.std.proofs.Common.{◌≡◌, ℕ, zero, suc, ◌+◌, ◌<◌, ◌≤◌, List, [], ◌∷◌, Some, None, refl, ap, sym, subst, ◌∙◌, arith, get_or, length, map, slice_set, drop}
use Rattle.std.specs.Prelude.{slice_get}
use Rattle.std.proofs.lemmas.List.{drop_more}
use Rattle.std.proofs.lemmas.Option.{none-some, get_or_from_slice_get, slice_get_within}
use Rattle.std.specs.List.{AllByRecursion as Each}
use Rattle.ppd_model.specs.World.{change}

-- what has each element of the other at its place is no shorter
pub no_longer : {A : Type 0} (xs ys : List A) → ((i : ℕ) (x : A) → slice_get xs i ≡ Some x → slice_get ys i ≡ Some x) → length xs ≤ length ys
no_longer [] ys h = omega arith
no_longer (x ∷ xs) [] h = absurd (none-some x (h 0 x refl))
no_longer (x ∷ xs) (y ∷ ys) h = let r : length xs ≤ length ys = no_longer xs ys (λ i z e. h (suc i) z e) in omega (arith, r)

-- what is left from an element on
pub left_from : {A : Type 0} (xs : List A) (i : ℕ) (x : A) → slice_get xs i ≡ Some x → drop i xs ≡ x ∷ drop (i + 1) xs
left_from xs i x e =
    drop_more xs i x (slice_get_within xs i x e) ∙ ap (λ y. y ∷ drop (i + 1) xs) (get_or_from_slice_get xs i x x e)

-- the default does not matter within the list
pub get_or_any : {A : Type 0} (xs : List A) (i : ℕ) (d e : A) → i < length xs → get_or xs i d ≡ get_or xs i e
get_or_any [] i d e h = absurd (omega arith)
get_or_any (x ∷ xs) zero d e h = refl
get_or_any (x ∷ xs) (suc i) d e h = get_or_any xs i d e (omega arith)

-- what holds of each holds of one
pub every_at : {A : Type 0} (P : A → Type 0) (xs : List A) (i : ℕ) (x : A) → Each P xs → slice_get xs i ≡ Some x → P x
every_at P [] i x h e = absurd (cc e)
every_at P (y ∷ ys) zero x h e = let is : y ≡ x = cc e in subst P is h.0
every_at P (y ∷ ys) (suc i) x h e = every_at P ys i x h.1 e

-- ---- mapped lists

pub map_get : {A B : Type 0} (f : A → B) (xs : List A) (k : ℕ) (x : A) → slice_get xs k ≡ Some x → slice_get (map f xs) k ≡ Some (f x)
map_get f [] k x e = absurd (cc e)
map_get f (y ∷ ys) zero x e = let is : y ≡ x = cc e in ap (λ z. Some (f z)) is
map_get f (y ∷ ys) (suc k) x e = map_get f ys k x e

pub get_mapped : {A B : Type 0} (f : A → B) (xs : List A) (k : ℕ) (d : B) (x : A) → slice_get xs k ≡ Some x
    → get_or (map f xs) k d ≡ f x
get_mapped f [] k d x e = absurd (none-some x e)
get_mapped f (y ∷ ys) zero d x e = ap f (ap (λ o. elim o [ None ↦ y | Some z ↦ z ]) e)
get_mapped f (y ∷ ys) (suc k) d x e = get_mapped f ys k d x e

pub get_or_map : {A B : Type 0} (f : List A → List B) (xs : List (List A)) (q : ℕ) → f [] ≡ [] → get_or (map f xs) q [] ≡ f (get_or xs q [])
get_or_map f [] q e = sym e
get_or_map f (x ∷ xs) zero e = refl
get_or_map f (x ∷ xs) (suc q) e = get_or_map f xs q e

-- ---- one element changed

pub change_past : {A : Type 0} (f : A → A) (i : ℕ) (xs : List A) → length xs ≤ i → change f i xs ≡ xs
change_past f i [] h = refl
change_past f zero (x ∷ xs) h = absurd (omega arith)
change_past f (suc i) (x ∷ xs) h = ap (λ ys. x ∷ ys) (change_past f i xs (omega arith))

pub set_is_change : {A : Type 0} (f : A → A) (i : ℕ) (xs : List A) (d y : A) → i < length xs → y ≡ f (get_or xs i d) → slice_set xs i y ≡ change f i xs
set_is_change f i [] d y h e = absurd (omega arith)
set_is_change f zero (x ∷ xs) d y h e = ap (λ z. z ∷ xs) e
set_is_change f (suc i) (x ∷ xs) d y h e = ap (λ ys. x ∷ ys) (set_is_change f i xs d y (omega arith) e)

pub map_change : {A B : Type 0} (h : A → B) (f : A → A) (g : B → B) (i : ℕ) (xs : List A) → ((x : A) → h (f x) ≡ g (h x)) → map h (change f i xs) ≡ change g i (map h xs)
map_change h f g i [] e = refl
map_change h f g zero (x ∷ xs) e = ap (λ y. y ∷ map h xs) (e x)
map_change h f g (suc i) (x ∷ xs) e = ap (λ ys. h x ∷ ys) (map_change h f g i xs e)
