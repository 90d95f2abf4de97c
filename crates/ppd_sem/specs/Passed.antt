-- The values that the next step passes to a function or back from it.
use Rattle.std.specs.Prelude.{ℕ, ℤ, List, [], ◌∷◌, Option, Some, None, Result, Ok, Err, option_to_list, option_and_then, slice_get}
use Rattle.std.specs.Option.{option_map_or}
use Rattle.ppd_ast.specs.declared.program.Kind.{Kind}
use Rattle.ppd_ast.specs.declared.program.Kind.TheVariants as kind
use Rattle.ppd_ast.specs.declared.program.Program.{Program}
use Rattle.ppd_ast.specs.Lookups.{kind_of}
use Rattle.ppd_sem.specs.declared.asking.Pause.{Pause}
use Rattle.ppd_sem.specs.declared.effect.Effect.{Effect}
use Rattle.ppd_sem.specs.declared.proc.Proc.{Proc}
use Rattle.ppd_sem.specs.declared.proc.Todo.{Todo}
use Rattle.ppd_sem.specs.Asked.{Asked, outcome}
use Rattle.ppd_sem.specs.Deed.{Deed, invoke, back}
use Rattle.ppd_sem.specs.Effects.{deed_of}
use Rattle.ppd_sem.specs.Process.{head_deed, top_frame}

-- the values with which a call is made
abbrev pub arguments_by : Asked Deed → List ℤ
arguments_by (Ok (invoke f values into, left)) = values
arguments_by asked = []

-- the value that is returned, if any
abbrev pub result_by : Asked Deed → Option ℤ
result_by (Ok (back value, left)) = value
result_by asked = None

-- the arguments of the head's call
abbrev pub arguments_at : Program → Proc → List ℤ
arguments_at program s = option_map_or (λ t. arguments_by (head_deed program t s)) (slice_get s.todo 0) []

-- the value of the head's return
abbrev pub result_at : Program → Proc → List ℤ
result_at program s =
    option_to_list (option_and_then (λ t. result_by (head_deed program t s)) (slice_get s.todo 0))

-- what the head statement does, where all its values are there
abbrev pub deed_by : Result Deed Pause → Option Deed
deed_by (Ok d) = Some d
deed_by (Err pause) = None

-- the same of a head statement
abbrev pub deed_of_head : Program → Proc → Option Todo → Option Deed
deed_of_head program s None = None
deed_of_head program s (Some t) = deed_by (outcome (head_deed program t s))

-- what the next step does, where the head statement has all its values
abbrev pub deed_at : Program → Proc → Option Deed
deed_at program s = deed_of_head program s (slice_get s.todo 0)

-- the kind of a head statement, and End without one
abbrev pub kind_if : Program → Option Todo → Kind
kind_if program None = kind.End
kind_if program (Some t) = kind_of program t.stmt

-- the deed of an effect of a head statement, if there is an effect
abbrev pub deed_if_there : Program → Proc → Option Todo → Option Effect → Option Deed
deed_if_there program s t None = None
deed_if_there program s t (Some e) =
    Some (deed_of program.exprs (kind_if program t) (top_frame s.frames).cells s.answers e)

-- the statement that comes next, if any is still to do
abbrev pub next_stmt_of : List Todo → Option ℕ
next_stmt_of [] = None
next_stmt_of (t ∷ ts) = Some t.stmt
