-- What holds of an answer holds of what follows from it.
use Rattle.std.proofs.Common.{Result, Ok, Err, OnOk}

pub ok_map : {X E : Type 0} (r : Result X E) (P Q : Type 0) → (P → Q) → OnOk r P → OnOk r Q
ok_map (Ok x) P Q f p = f p
ok_map (Err e) P Q f p = tt

pub both_ok : {X E : Type 0} (r : Result X E) (P Q R : Type 0) → OnOk r P → OnOk r Q → (P → Q → R) → OnOk r R
both_ok (Ok x) P Q R p q f = f p q
both_ok (Err e) P Q R p q f = tt
