-- What lists have.
use Rattle.std.proofs.Common.{zero, suc, List, [], ◌∷◌, ◌++◌, refl, arith}
use Rattle.std.specs.List.{Contains}

pub here : {A : Type 0} (x : A) (xs : List A) → Contains (x ∷ xs) x
here x xs = (0, omega arith, refl)

pub there : {A : Type 0} (x y : A) (xs : List A) → Contains xs x → Contains (y ∷ xs) x
there x y xs h = let l = h.1 in (suc h.0, omega (arith, l), h.2)

pub in_left : {A : Type 0} (x : A) (xs ys : List A) → Contains xs x → Contains (xs ++ ys) x
in_left x [] ys h = let l = h.1 in absurd (omega (arith, l))
in_left x (y ∷ xs) ys (zero, l, e) = (zero, omega arith, e)
in_left x (y ∷ xs) ys (suc k, l, e) = there x y (xs ++ ys) (in_left x xs ys (k, omega (arith, l), e))

pub in_right : {A : Type 0} (x : A) (xs ys : List A) → Contains ys x → Contains (xs ++ ys) x
in_right x [] ys h = h
in_right x (y ∷ xs) ys h = there x y (xs ++ ys) (in_right x xs ys h)
