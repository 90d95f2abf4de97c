-- The reads of an expression from those of its parts.
use Rattle.std.proofs.Common.{◌≡◌, ℤ, List, [], Ok, Err, refl}
use Rattle.std.proofs.lemmas.Int.{to_z-of_z}
use Rattle.std.proofs.lemmas.List.{append_assoc, append-nil}
use Rattle.ppd_sem.specs.declared.asking.Pause.{Pause}
use Rattle.ppd_sem.specs.Asked.{Asked, once}

pub once_ok : {A B : Type 0} (r : Asked A) (bring : A → List ℤ → List B) (x : A) (left : List ℤ) → r ≡ Ok (x, left) → once r bring ≡ bring x left
once_ok r bring x left e = rw e refl

pub once_err : {A B : Type 0} (r : Asked A) (bring : A → List ℤ → List B) (p : Pause) → r ≡ Err p → once r bring ≡ []
once_err r bring p e = rw e refl

pub ruleset reading = (to_z-of_z, once_ok, once_err, append_assoc, append-nil)
