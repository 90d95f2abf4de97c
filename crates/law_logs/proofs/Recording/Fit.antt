-- What holds of each element of a list, and of a value if there is one.
use Rattle.std.proofs.Common.{◌≡◌, ℕ, zero, suc, ℤ, Bool, true, false, List, [], ◌∷◌, ◌++◌, Option, Some, None, refl, subst, map, if◌then◌else◌}
use Rattle.std.specs.Prelude.{slice_get, ⊤}
use Rattle.std.specs.List.{AllByRecursion}
use Rattle.std.proofs.lemmas.Option.{none-some}
use Rattle.ppd_sem.specs.Ask.{is_in_64_bits}
use Rattle.ppd_model.specs.World.{change}
use Rattle.ppd_model.proofs.Changes.{some}

abbrev pub Fit : ℤ → Type 0
Fit v = is_in_64_bits v ≡ true

abbrev pub All : {A : Type 0} → (A → Type 0) → List A → Type 0
All P xs = AllByRecursion P xs

abbrev pub SomeFits : {A : Type 0} → (A → Type 0) → Option A → Type 0
SomeFits P None = ⊤
SomeFits P (Some x) = P x

pub choose : {A : Type 0} (P : A → Type 0) (b : Bool) (x y : A) → P x → P y → P (if b then x else y)
choose P true x y h k = h
choose P false x y h k = k

pub all_append : {A : Type 0} (P : A → Type 0) (xs ys : List A) → All P xs → All P ys → All P (xs ++ ys)
all_append P [] ys h k = k
all_append P (x ∷ xs) ys h k = (h.0, all_append P xs ys h.1 k)

pub all_left : {A : Type 0} (P : A → Type 0) (xs ys : List A) → All P (xs ++ ys) → All P xs
all_left P [] ys h = tt
all_left P (x ∷ xs) ys h = (h.0, all_left P xs ys h.1)

pub all_right : {A : Type 0} (P : A → Type 0) (xs ys : List A) → All P (xs ++ ys) → All P ys
all_right P [] ys h = h
all_right P (x ∷ xs) ys h = all_right P xs ys h.1

pub all_change : {A : Type 0} (P : A → Type 0) (f : A → A) (k : ℕ) (xs : List A) → ((x : A) → slice_get xs k ≡ Some x → P x → P (f x)) → All P xs → All P (change f k xs)
all_change P f k [] go h = tt
all_change P f zero (x ∷ xs) go h = (go x refl h.0, h.1)
all_change P f (suc k) (x ∷ xs) go h = (h.0, all_change P f k xs go h.1)

pub all_at : {A : Type 0} (P : A → Type 0) (xs : List A) (k : ℕ) (x : A) → All P xs → slice_get xs k ≡ Some x → P x
all_at P [] k x h e = absurd (none-some x e)
all_at P (y ∷ xs) zero x h e = subst P (some e) h.0
all_at P (y ∷ xs) (suc k) x h e = all_at P xs k x h.1 e

pub all_map : {A B : Type 0} (P : A → Type 0) (Q : B → Type 0) (f : A → B) (xs : List A) → ((x : A) → P x → Q (f x)) → All P xs → All Q (map f xs)
all_map P Q f [] go h = tt
all_map P Q f (x ∷ xs) go h = (go x h.0, all_map P Q f xs go h.1)

pub all_more : {A : Type 0} (P Q : A → Type 0) (xs : List A) → ((x : A) → P x → Q x) → All P xs → All Q xs
all_more P Q [] go h = tt
all_more P Q (x ∷ xs) go h = (go x h.0, all_more P Q xs go h.1)
