-- What holds of each element of two lists.
use Rattle.std.proofs.Common.{◌↔◌, ◌+◌, Bool, IsTrue, List, ◌++◌, length, arith, subst, length-append}
use Rattle.std.specs.List.{All}
use Rattle.std.proofs.lemmas.List.{get_or_append_left, get_or-append-add}
use Rattle.std.proofs.lemmas.List.Elements.{All-append}

pub All-append_parts : {X : Type 0} (P : X → Type 0) (xs ys : List X) → All P (xs ++ ys) → All P xs × All P ys
All-append_parts {X} P xs ys h = (
  λ k d b. subst P (get_or_append_left xs ys d k b) (h k d (omega (arith, length-append xs ys))),
  λ k d b. subst P (get_or-append-add xs ys k d) (h (length xs + k) d (omega (arith, length-append xs ys))),
)

pub both_lists : {X : Type 0} (P : X → Type 0) (xs ys : List X) (r : Bool) → IsTrue r ↔ (All P xs × All P ys) → IsTrue r ↔ All P (xs ++ ys)
both_lists P xs ys r f =
    (λ h. let b : All P xs × All P ys = f.0 h in All-append P xs ys b.0 b.1, λ h. f.1 (All-append_parts P xs ys h))
