-- The value of an expression, from local cells and the answers to its shared reads.
use Rattle.std.specs.Prelude.{ℕ, ◌+◌, ◌^◌, ℤ, pos, negsuc, ◌+ℤ◌, ◌-ℤ◌, ◌*ℤ◌, neg_ℤ, int_lt, int_le, int_div, int_rem, nat_lt, Bool, not as negated, List, Result, Ok, Err, if◌then◌else◌, get_or}
use Rattle.std.specs.Ordering.{int_eq}
use Rattle.ppd_ast.specs.declared.program.Op.{Op}
use Rattle.ppd_ast.specs.declared.program.Op.TheVariants.{Mul, Div, Rem, Add, Sub, Lt, Le, Gt, Ge, Eq, Ne}
use Rattle.ppd_ast.specs.Term.{Term, const, local, local_at, shared, shared_at, neg, not, two, and, or}
use Rattle.ppd_ast.specs.declared.status.Trap.{Trap}
use Rattle.ppd_ast.specs.declared.status.Trap.TheVariants.{Overflow, Zero, Index}
use Rattle.ppd_sem.specs.Asked.{Asked, gives, and_then, read_shared, lift}

abbrev pub is_in_64_bits : ℤ → Bool
is_in_64_bits (pos n) = nat_lt n (2 ^ 63)
is_in_64_bits (negsuc n) = nat_lt n (2 ^ 63)

-- 0 or 1
abbrev pub truth : Bool → ℤ
truth b = if b then pos 1 else pos 0

abbrev pub checked : ℤ → Result ℤ Trap
checked x = if is_in_64_bits x then Ok x else Err Overflow

abbrev pub calc : Op → ℤ → ℤ → Result ℤ Trap
calc Mul x y = checked (x *ℤ y)
calc Div x y = if int_eq y (pos 0) then Err Zero else checked (int_div x y)
calc Rem x y =
    if int_eq y (pos 0) then Err Zero
    else if is_in_64_bits (int_div x y) then Ok (int_rem x y)
    else Err Overflow
calc Add x y = checked (x +ℤ y)
calc Sub x y = checked (x -ℤ y)
calc Lt x y = Ok (truth (int_lt x y))
calc Le x y = Ok (truth (int_le x y))
calc Gt x y = Ok (truth (int_lt y x))
calc Ge x y = Ok (truth (int_le y x))
calc Eq x y = Ok (truth (int_eq x y))
calc Ne x y = Ok (truth (negated (int_eq x y)))

-- the cell of an array's element
abbrev pub element : ℕ → ℕ → ℤ → Result ℕ Trap
element base len (pos i) = if nat_lt i len then Ok (base + i) else Err Index
element base len (negsuc i) = Err Index

abbrev pub ask : Term → List ℤ → List ℤ → Asked ℤ
ask (const v) cells answers = gives answers v
ask (local c) cells answers = gives answers (get_or cells c (pos 0))
ask (local_at base len i) cells answers =
    and_then (ask i cells answers) (λ at left.
    and_then (lift left (element base len at)) (λ c left.
    gives left (get_or cells c (pos 0))))
ask (shared c) cells answers = read_shared answers c
ask (shared_at base len i) cells answers =
    and_then (ask i cells answers) (λ at left.
    and_then (lift left (element base len at)) (λ c left.
    read_shared left c))
ask (neg a) cells answers = and_then (ask a cells answers) (λ x left. lift left (checked (neg_ℤ x)))
ask (not a) cells answers = and_then (ask a cells answers) (λ x left. gives left (truth (int_eq x (pos 0))))
ask (two op a b) cells answers =
    and_then (ask a cells answers) (λ x left.
    and_then (ask b cells left) (λ y left.
    lift left (calc op x y)))
ask (and a b) cells answers =
    and_then (ask a cells answers) (λ x left.
    if int_eq x (pos 0) then gives left (pos 0)
    else and_then (ask b cells left) (λ y left. gives left (truth (negated (int_eq y (pos 0))))))
ask (or a b) cells answers =
    and_then (ask a cells answers) (λ x left.
    if int_eq x (pos 0) then and_then (ask b cells left) (λ y left. gives left (truth (negated (int_eq y (pos 0)))))
    else gives left (pos 1))
