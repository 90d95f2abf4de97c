-- The value and the reads of an expression in the order in which its operands are evaluated.
use Rattle.std.specs.Prelude.{ℕ, ◌+◌, ◌<◌, ◌≤◌, ◌^◌, ⊤, ℤ, pos, neg_ℤ, not as negated, List, [], Option, None, Some, Result, Ok, if◌then◌else◌, get_or, ◌∷◌}
use Rattle.std.specs.Ordering.{int_eq}
use Rattle.ppd_ast.specs.declared.program.Expr.{Expr}
use Rattle.ppd_ast.specs.declared.program.Target.{Target}
use Rattle.ppd_ast.specs.declared.program.Target.TheVariants as target
use Rattle.ppd_ast.specs.Term.{term}
use Rattle.ppd_ast.specs.declared.program.Expr.TheVariants.{Const, Local, LocalAt, Shared, SharedAt, Neg, Not, Two, And, Or}
use Rattle.ppd_ast.specs.declared.status.Trap.{Trap}
use Rattle.ppd_sem.specs.declared.event.Access.{Access}
use Rattle.ppd_sem.specs.Asked.{Asked, gives, and_then, lift, once, read_shared}
use Rattle.ppd_sem.specs.Ask.{calc, checked, element, truth}
use Rattle.ppd_sem.specs.Reads.{reads_of, shared_read, local_accesses}

-- the operand that is evaluated first
abbrev pub first_of : Expr → Option ℕ
first_of (Const v) = None
first_of (Local c) = None
first_of (LocalAt base len i) = Some i
first_of (Shared c) = None
first_of (SharedAt base len i) = Some i
first_of (Neg a) = Some a
first_of (Not a) = Some a
first_of (Two op a b) = Some a
first_of (And a b) = Some a
first_of (Or a b) = Some a

-- the operand that is evaluated once the first came to x
abbrev pub second_of : Expr → ℤ → Option ℕ
second_of (Two op a b) x = Some b
second_of (And a b) x = if int_eq x (pos 0) then None else Some b
second_of (Or a b) x = if int_eq x (pos 0) then Some b else None
second_of e x = None

-- an expression without operands
abbrev pub leaf : Expr → List ℤ → List ℤ → Asked ℤ
leaf (Const v) cells answers = gives answers v
leaf (Local c) cells answers = gives answers (get_or cells c (pos 0))
leaf (Shared c) cells answers = read_shared answers c
leaf e cells answers = gives answers (pos 0)

-- an expression by its first operand alone
abbrev pub by_first : Expr → ℤ → List ℤ → List ℤ → Asked ℤ
by_first (LocalAt base len i) x cells left =
    and_then (lift left (element base len x)) (λ c left. gives left (get_or cells c (pos 0)))
by_first (SharedAt base len i) x cells left =
    and_then (lift left (element base len x)) (λ c left. read_shared left c)
by_first (Neg a) x cells left = lift left (checked (neg_ℤ x))
by_first (Not a) x cells left = gives left (truth (int_eq x (pos 0)))
by_first (Or a b) x cells left = gives left (pos 1)
by_first e x cells left = gives left (pos 0)

-- an expression by both its operands
abbrev pub by_both : Expr → ℤ → ℤ → Result ℤ Trap
by_both (Two op a b) x y = calc op x y
by_both e x y = Ok (truth (negated (int_eq y (pos 0))))

-- the local cells that the expression itself names are below n, and the shared ones have 16 bits
abbrev pub AreCellsBelow : ℕ → Expr → Type 0
AreCellsBelow n (Local c) = c < n
AreCellsBelow n (LocalAt base len i) = base + len ≤ n
AreCellsBelow n (SharedAt base len i) = base + len < 2 ^ 16
AreCellsBelow n e = ⊤

-- the read of an expression without operands
abbrev pub leaf_read : ℕ → Expr → List ℤ → List ℤ → List Access
leaf_read frame (Local c) cells answers = local_accesses frame c (get_or cells c (pos 0) ∷ [])
leaf_read frame (Shared c) cells answers = shared_read c answers
leaf_read frame e cells answers = []

-- the read of an array's element, once its index came to x
abbrev pub element_read : ℕ → Expr → ℤ → List ℤ → List ℤ → List Access
element_read frame (LocalAt base len i) x cells left =
    once (lift left (element base len x)) (λ c left. local_accesses frame c (get_or cells c (pos 0) ∷ []))
element_read frame (SharedAt base len i) x cells left =
    once (lift left (element base len x)) (λ c left. shared_read c left)
element_read frame e x cells left = []

-- the reads of a target's index
abbrev pub index_reads : ℕ → List Expr → Target → List ℤ → List ℤ → List Access
index_reads frame es (target.Local c) cells answers = []
index_reads frame es (target.LocalAt base len i) cells answers = reads_of frame (term es i) cells answers
index_reads frame es (target.Shared c) cells answers = []
index_reads frame es (target.SharedAt base len i) cells answers = reads_of frame (term es i) cells answers
