-- The reads of an expression and of a statement, in order of evaluation.
use Rattle.std.specs.Prelude.{ℕ, ℤ, List, [], ◌∷◌, ◌++◌, Some, if◌then◌else◌, get_or, pos, ◌+◌}
use Rattle.std.specs.Ordering.{int_eq}
use Rattle.ppd_ast.specs.declared.program.Target.TheVariants as target
use Rattle.ppd_ast.specs.declared.program.Expr.{Expr}
use Rattle.ppd_ast.specs.declared.program.Kind.{Kind}
use Rattle.ppd_ast.specs.declared.program.Kind.TheVariants.{Set, If, While, Call, Return, Send, Print, Assert}
use Rattle.ppd_ast.specs.Term.{Term, const, local, local_at, shared, shared_at, neg, not, two, and, or, term}
use Rattle.ppd_sem.specs.Asked.{Asked, and_then, lift, once}
use Rattle.ppd_sem.specs.Ask.{ask, element}
use Rattle.ppd_sem.specs.declared.event.Access.{Access}
use Rattle.ppd_sem.specs.declared.event.Spot.TheVariants as spot

-- accesses of the local cells from c on, with these values
abbrev pub local_accesses : ℕ → ℕ → List ℤ → List Access
local_accesses frame c [] = []
local_accesses frame c (v ∷ vs) = record { spot = spot.Local frame c; value = v } ∷ local_accesses frame (c + 1) vs

-- the cell of an array's element, once its index is there and was tested
abbrev pub ask_place : Term → ℕ → ℕ → List ℤ → List ℤ → Asked ℕ
ask_place i base len cells answers = and_then (ask i cells answers) (λ at left. lift left (element base len at))

-- a shared read is made where its answer is there
abbrev pub shared_read : ℕ → List ℤ → List Access
shared_read c [] = []
shared_read c (v ∷ left) = record { spot = spot.Shared c; value = v } ∷ []

-- the reads of an expression of the top frame, with the answers to its shared reads
abbrev pub reads_of : ℕ → Term → List ℤ → List ℤ → List Access
reads_of frame (const v) cells answers = []
reads_of frame (local c) cells answers = local_accesses frame c (get_or cells c (pos 0) ∷ [])
reads_of frame (local_at base len i) cells answers =
    reads_of frame i cells answers
    ++ once (ask_place i base len cells answers) (λ c left. local_accesses frame c (get_or cells c (pos 0) ∷ []))
reads_of frame (shared c) cells answers = shared_read c answers
reads_of frame (shared_at base len i) cells answers =
    reads_of frame i cells answers ++ once (ask_place i base len cells answers) (λ c left. shared_read c left)
reads_of frame (neg a) cells answers = reads_of frame a cells answers
reads_of frame (not a) cells answers = reads_of frame a cells answers
reads_of frame (two op a b) cells answers =
    reads_of frame a cells answers ++ once (ask a cells answers) (λ x left. reads_of frame b cells left)
reads_of frame (and a b) cells answers =
    reads_of frame a cells answers
    ++ once (ask a cells answers) (λ x left. if int_eq x (pos 0) then [] else reads_of frame b cells left)
reads_of frame (or a b) cells answers =
    reads_of frame a cells answers
    ++ once (ask a cells answers) (λ x left. if int_eq x (pos 0) then reads_of frame b cells left else [])

-- the arguments, left to right
abbrev pub reads_of_all : ℕ → List Expr → List ℕ → List ℤ → List ℤ → List Access
reads_of_all frame es [] cells answers = []
reads_of_all frame es (a ∷ as') cells answers =
    reads_of frame (term es a) cells answers
    ++ once (ask (term es a) cells answers) (λ v left. reads_of_all frame es as' cells left)

-- an index, tested first, and then the value that is stored
abbrev pub reads_of_stored : ℕ → Term → Term → ℕ → ℕ → List ℤ → List ℤ → List Access
reads_of_stored frame i e base len cells answers =
    reads_of frame i cells answers ++ once (ask_place i base len cells answers) (λ c left. reads_of frame e cells left)

abbrev pub reads_of_kind : ℕ → List Expr → Kind → List ℤ → List ℤ → List Access
reads_of_kind frame es (Set (target.Local c) e) = reads_of frame (term es e)
reads_of_kind frame es (Set (target.LocalAt base len i) e) = reads_of_stored frame (term es i) (term es e) base len
reads_of_kind frame es (Set (target.Shared c) e) = reads_of frame (term es e)
reads_of_kind frame es (Set (target.SharedAt base len i) e) = reads_of_stored frame (term es i) (term es e) base len
reads_of_kind frame es (If e first second) = reads_of frame (term es e)
reads_of_kind frame es (While e body) = reads_of frame (term es e)
reads_of_kind frame es (Call function arguments into) = reads_of_all frame es arguments
reads_of_kind frame es (Return (Some e)) = reads_of frame (term es e)
reads_of_kind frame es (Send c e) = reads_of frame (term es e)
reads_of_kind frame es (Print e) = reads_of frame (term es e)
reads_of_kind frame es (Assert e) = reads_of frame (term es e)
reads_of_kind frame es k = λ cells answers. []
