-- The first place that passes, as a loop over the places finds it.
use Rattle.std.proofs.Common.{◌≡◌, ℕ, ◌<◌, Bool, true, false, cond, List, [], ◌∷◌, length, get_or, Some, None, refl, arith}
use Rattle.std.specs.Prelude.{position, nat_lt}
use Rattle.std.specs.List.{position_or_len}
use Rattle.std.proofs.lemmas.List.Sums.{position_or_len_is}
use Rattle.std.proofs.lemmas.Bool.{lt-ltb, le-ltb}

by_place : (n i l : ℕ) → n ≡ i → i < l → cond (nat_lt n l) (Some n) None ≡ Some i
by_place n i l e lt =
    let t : nat_lt i l ≡ true = lt-ltb i l lt in
    rw (e, t)

pub position_here : {X : Type 0} (p : X → Bool) (xs : List X) (i : ℕ) (d : X) → i < length xs → ((k : ℕ) → k < i → p (get_or xs k d) ≡ false) → p (get_or xs i d) ≡ true → position p xs ≡ Some i
position_here p xs i d lt before at =
    by_place (position_or_len p xs) i (length xs) (position_or_len_is p xs i d (omega arith) before (λ _. at)) lt

none_by_place : (n l : ℕ) → n ≡ l → cond (nat_lt n l) (Some n) None ≡ None
none_by_place n l e =
    let t : nat_lt l l ≡ false = le-ltb l l (omega arith) in
    rw (e, t)

pub position_none : {X : Type 0} (p : X → Bool) (xs : List X) → ((k : ℕ) (d : X) → k < length xs → p (get_or xs k d) ≡ false) → position p xs ≡ None
position_none p [] h = refl
position_none p (x ∷ xs) h =
    none_by_place (position_or_len p (x ∷ xs)) (length (x ∷ xs)) (position_or_len_is p (x ∷ xs) (length (x ∷ xs)) x (omega arith) (λ k lt. h k x lt) (λ lt. absurd (omega arith)))
