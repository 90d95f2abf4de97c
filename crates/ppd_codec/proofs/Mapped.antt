-- What holds of a result's value, by what else holds of it.
use Rattle.std.proofs.Common.{Result, Ok, Err, IfErr, IfOk}

pub map_ok : {T E : Type 0} (r : Result T E) {P Q : T → Type 0} → ((x : T) → P x → Q x) → IfOk r P → IfOk r Q
map_ok (Ok x) h p = h x p
map_ok (Err e) h p = tt

pub map_err : {T E : Type 0} (r : Result T E) {P Q : E → Type 0} → ((e : E) → P e → Q e) → IfErr r P → IfErr r Q
map_err (Ok x) h p = tt
map_err (Err e) h p = h e p
