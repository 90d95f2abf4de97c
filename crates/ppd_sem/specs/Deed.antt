-- What a statement does once all its values are there.
use Rattle.std.specs.Prelude.{ℕ, ℤ, List, [], ◌∷◌, Option, Some, None, Err, if◌then◌else◌, pos}
use Rattle.std.specs.Ordering.{int_eq}
use Rattle.ppd_ast.specs.declared.program.Target.TheVariants.{Local, LocalAt, Shared, SharedAt}
use Rattle.ppd_ast.specs.declared.program.Expr.{Expr}
use Rattle.ppd_ast.specs.declared.program.Kind.{Kind}
use Rattle.ppd_ast.specs.declared.program.Kind.TheVariants.{Set, Zero, If, While, Call, Return, P, V, Send, Recv, Print, Assert, End}
use Rattle.ppd_ast.specs.Term.{Term, term}
use Rattle.ppd_ast.specs.declared.status.Trap.TheVariants as trap
use Rattle.ppd_sem.specs.Asked.{Asked, gives, and_then, lift}
use Rattle.ppd_sem.specs.declared.asking.Pause.TheVariants.{Traps}
use Rattle.ppd_sem.specs.Ask.{ask, element}

pub data Deed : Type 0 where
  set_local : ℕ → ℤ → Deed
  set_shared : ℕ → ℤ → Deed
  clear : (base len : ℕ) → Deed
  branch : List ℕ → Deed
  turn : List ℕ → Deed
  leave : Deed
  invoke : (function : ℕ) → List ℤ → Option ℕ → Deed
  back : Option ℤ → Deed
  take : ℕ → Deed
  give : ℕ → Deed
  send : ℕ → ℤ → Deed
  receive : (chan into : ℕ) → Deed
  print : ℤ → Deed
  pass : Deed
  finish : Deed

-- the arguments, left to right
abbrev pub ask_all : List Expr → List ℕ → List ℤ → List ℤ → Asked (List ℤ)
ask_all es [] cells answers = gives answers []
ask_all es (a ∷ as') cells answers =
    and_then (ask (term es a) cells answers) (λ v left.
    and_then (ask_all es as' cells left) (λ vs left. gives left (v ∷ vs)))

-- an index, tested first, and then the value that is stored
abbrev pub ask_stored : Term → Term → ℕ → ℕ → (ℕ → ℤ → Deed) → List ℤ → List ℤ → Asked Deed
ask_stored i e base len store cells answers =
    and_then (ask i cells answers) (λ at left.
    and_then (lift left (element base len at)) (λ c left.
    and_then (ask e cells left) (λ v left. gives left (store c v))))

abbrev pub ask_deed : List Expr → Kind → List ℤ → List ℤ → Asked Deed
ask_deed es (Set (Local c) e) cells answers =
    and_then (ask (term es e) cells answers) (λ v left. gives left (set_local c v))
ask_deed es (Set (LocalAt base len i) e) cells answers =
    ask_stored (term es i) (term es e) base len set_local cells answers
ask_deed es (Set (Shared c) e) cells answers =
    and_then (ask (term es e) cells answers) (λ v left. gives left (set_shared c v))
ask_deed es (Set (SharedAt base len i) e) cells answers =
    ask_stored (term es i) (term es e) base len set_shared cells answers
ask_deed es (Zero base len) cells answers = gives answers (clear base len)
ask_deed es (If e then_list else_list) cells answers =
    and_then (ask (term es e) cells answers)
    (λ v left. gives left (branch (if int_eq v (pos 0) then else_list else then_list)))
ask_deed es (While e body) cells answers =
    and_then (ask (term es e) cells answers) (λ v left. gives left (if int_eq v (pos 0) then leave else turn body))
ask_deed es (Call function arguments into) cells answers =
    and_then (ask_all es arguments cells answers) (λ vs left. gives left (invoke function vs into))
ask_deed es (Return None) cells answers = gives answers (back None)
ask_deed es (Return (Some e)) cells answers =
    and_then (ask (term es e) cells answers) (λ v left. gives left (back (Some v)))
ask_deed es (P s) cells answers = gives answers (take s)
ask_deed es (V s) cells answers = gives answers (give s)
ask_deed es (Send c e) cells answers = and_then (ask (term es e) cells answers) (λ v left. gives left (send c v))
ask_deed es (Recv c into) cells answers = gives answers (receive c into)
ask_deed es (Print e) cells answers = and_then (ask (term es e) cells answers) (λ v left. gives left (print v))
ask_deed es (Assert e) cells answers =
    and_then (ask (term es e) cells answers)
    (λ v left. if int_eq v (pos 0) then Err (Traps trap.Assert) else gives left pass)
ask_deed es End cells answers = gives answers finish
