-- A deed from its short form, whose lists of statements and arguments stand in the statement.
use Rattle.std.specs.Prelude.{ℕ, ◌+◌, ◌<◌, ◌^◌, ℤ, ⊤, List, [], ◌∷◌, Result, Ok, Err, if◌then◌else◌}
use Rattle.ppd_ast.specs.declared.program.Expr.{Expr}
use Rattle.ppd_ast.specs.declared.program.Kind.{Kind}
use Rattle.ppd_ast.specs.declared.program.Kind.TheVariants as kind
use Rattle.ppd_ast.specs.declared.program.Program.{Program}
use Rattle.ppd_ast.specs.Term.{term}
use Rattle.ppd_ast.specs.Lookups.{kind_of}
use Rattle.ppd_sem.specs.declared.asking.Pause.{Pause}
use Rattle.ppd_sem.specs.declared.effect.Effect.{Effect}
use Rattle.ppd_sem.specs.declared.effect.Effect.TheVariants as effect
use Rattle.ppd_sem.specs.declared.proc.Proc.{Proc}
use Rattle.ppd_sem.specs.declared.proc.Todo.{Todo}
use Rattle.ppd_sem.specs.Asked.{once}
use Rattle.ppd_sem.specs.Ask.{ask}
use Rattle.ppd_sem.specs.Deed.{Deed, set_local, set_shared, clear, branch, turn, leave, invoke, back, take, give, send, receive, print, pass, finish}
use Rattle.ppd_sem.specs.Process.{top_frame}

-- the arguments of a call
abbrev pub arguments_of : Kind → List ℕ
arguments_of (kind.Call f arguments into) = arguments
arguments_of k = []

-- the statements that come next where the test is true, and where it is not
abbrev pub branch_of : Kind → (first : List ℕ → List ℕ → List ℕ) → List ℕ
branch_of (kind.If e then_list else_list) choose = choose then_list else_list
branch_of k choose = []

abbrev pub body_of : Kind → List ℕ
body_of (kind.While e body) = body
body_of k = []

-- the arguments' values up to the first that is not there
abbrev pub given : List Expr → List ℕ → List ℤ → List ℤ → List ℤ
given es [] cells answers = []
given es (a ∷ as') cells answers = once (ask (term es a) cells answers) (λ v left. v ∷ given es as' cells left)

abbrev pub deed_of : List Expr → Kind → List ℤ → List ℤ → Effect → Deed
deed_of es k cells answers (effect.SetLocal c v) = set_local c v
deed_of es k cells answers (effect.SetShared c v) = set_shared c v
deed_of es k cells answers (effect.Clear base len) = clear base len
deed_of es k cells answers (effect.Branch holds) =
    branch (branch_of k (λ first second. if holds then first else second))
deed_of es k cells answers effect.Turn = turn (body_of k)
deed_of es k cells answers effect.Leave = leave
deed_of es k cells answers (effect.Invoke f into) = invoke f (given es (arguments_of k) cells answers) into
deed_of es k cells answers (effect.Back value) = back value
deed_of es k cells answers (effect.Take s) = take s
deed_of es k cells answers (effect.Give s) = give s
deed_of es k cells answers (effect.Send c v) = send c v
deed_of es k cells answers (effect.Receive c into) = receive c into
deed_of es k cells answers (effect.Print v) = print v
deed_of es k cells answers effect.Pass = pass
deed_of es k cells answers effect.Finish = finish

abbrev pub deed_if : List Expr → Kind → List ℤ → List ℤ → Result Effect Pause → Result Deed Pause
deed_if es k cells answers (Ok e) = Ok (deed_of es k cells answers e)
deed_if es k cells answers (Err pause) = Err pause

-- the cells that it clears have 16 bits
abbrev pub HasRange : Effect → Type 0
HasRange (effect.Clear base len) = base + len < 2 ^ 16
HasRange e = ⊤

-- the deed of the head statement
abbrev pub head_deed_of : Program → Todo → Proc → Effect → Deed
head_deed_of program t s e = deed_of program.exprs (kind_of program t.stmt) (top_frame s.frames).cells s.answers e

abbrev pub head_deed_if : Program → Todo → Proc → Result Effect Pause → Result Deed Pause
head_deed_if program t s r = deed_if program.exprs (kind_of program t.stmt) (top_frame s.frames).cells s.answers r

-- the values of arguments that are all there
abbrev pub given_if : List ℤ → Result (Unit {0}) Pause → Result (List ℤ) Pause
given_if values (Ok _) = Ok values
given_if values (Err pause) = Err pause
