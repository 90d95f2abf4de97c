-- A value that is answered where what filled it is done.
use Rattle.std.proofs.Common.{◌≡◌, subst, sym, Result, Ok, Err, OnOk, IfOk}
use Rattle.std.specs.Result.{result_and}

pub done_with : {T U E : Type 0} (done : Result T E) (value : U) (r : Result U E) (P : U → Type 0) (Q : Type 0) → r ≡ result_and done (Ok value) → OnOk done Q → (Q → P value) → IfOk r P
done_with (Ok x) value r P Q e q h = subst (λ s. IfOk s P) (sym e) (h q)
done_with (Err x) value r P Q e q h = subst (λ s. IfOk s P) (sym e) tt
