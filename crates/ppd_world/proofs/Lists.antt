-- One element of a list changed, and what holds of each.
use Rattle.std.proofs.Common.{◌≡◌, ℕ, zero, suc, ◌+◌, ◌<◌, ◌≤◌, List, [], ◌∷◌, ◌++◌, length, get_or, map, take, drop, Some, refl, ap, sym, ◌∙◌, arith}
use Rattle.std.specs.Prelude.{slice_get}
use Rattle.std.proofs.lemmas.List.{map-append, take_all, take_more}
use Rattle.std.specs.List.{AllByRecursion as Each, All}
use Rattle.ppd_model.specs.World.{change}
use Rattle.ppd_model.proofs.Earlier.{each_more}

-- a change and its inverse
pub change_back : {A : Type 0} (f g : A → A) (i : ℕ) (xs : List A) → ((x : A) → g (f x) ≡ x) → change g i (change f i xs) ≡ xs
change_back f g i [] h = refl
change_back f g zero (x ∷ xs) h = ap (λ y. y ∷ xs) (h x)
change_back f g (suc i) (x ∷ xs) h = ap (λ ys. x ∷ ys) (change_back f g i xs h)

-- ---- each

pub every_all : {A : Type 0} (P : A → Type 0) (xs : List A) → Each P xs → All P xs
every_all P [] h k d lt = absurd (omega arith)
every_all P (x ∷ xs) h zero d lt = h.0
every_all P (x ∷ xs) h (suc k) d lt = every_all P xs h.1 k d (omega arith)

pub all_every : {A : Type 0} (P : A → Type 0) (xs : List A) → All P xs → Each P xs
all_every P [] h = tt
all_every P (x ∷ xs) h = (h 0 x (omega arith), all_every P xs (λ k d lt. h (suc k) d (omega arith)))

pub every_change : {A : Type 0} (P Q : A → Type 0) (f : A → A) (i : ℕ) (xs : List A) → ((x : A) → P x → Q x) → ((x : A) → slice_get xs i ≡ Some x → P x → Q (f x)) → Each P xs → Each Q (change f i xs)
every_change P Q f i [] weak here h = h
every_change P Q f zero (x ∷ xs) weak here h = (here x refl h.0, each_more P Q xs weak h.1)
every_change P Q f (suc i) (x ∷ xs) weak here h = (weak x h.0, every_change P Q f i xs weak here h.1)

pub every_map : {A B : Type 0} (P : B → Type 0) (f : A → B) (xs : List A) → Each (λ x. P (f x)) xs → Each P (map f xs)
every_map P f [] h = h
every_map P f (x ∷ xs) h = (h.0, every_map P f xs h.1)

-- the first one taken off
pub first_off : {A : Type 0} (xs ys : List A) (x : A) → 0 < length xs → x ≡ get_or xs 0 x → ys ≡ take 0 xs ++ drop (0 + 1) xs → xs ≡ x ∷ ys
first_off [] ys x lt e f = absurd (omega arith)
first_off (z ∷ zs) ys x lt e f = let same : x ≡ z = e in let rest : ys ≡ zs = f in cc

-- one more of what a function gives of each
pub mapped_more : {A B : Type 0} (f : A → B) (xs : List A) (i : ℕ) (x : A) (now new : List B) → i < length xs → x ≡ get_or xs i x → now ≡ map f (take i xs) → new ≡ now ++ f x ∷ [] → new ≡ map f (take (i + 1) xs)
mapped_more f xs i x now new lt is inv more =
    more ∙ ap (λ ys. ys ++ f x ∷ []) inv ∙ sym (map-append f (take i xs) (x ∷ [])) ∙ ap (λ y. map f (take i xs ++ y ∷ [])) is ∙ sym (ap (map f) (take_more xs i x lt))

pub mapped_all : {A B : Type 0} (f : A → B) (xs : List A) (i : ℕ) (now : List B) → length xs ≤ i → now ≡ map f (take i xs) → now ≡ map f xs
mapped_all f xs i now past inv = inv ∙ ap (map f) (take_all i xs past)
