-- The event of a process's next step, from the process's own state alone.
use Rattle.std.specs.Prelude.{ℕ, ◌+◌, ℤ, pos, Bool, true, false, ◌||◌, not, List, [], ◌∷◌, ◌++◌, take_while, Option, Some, None, is_some, option_map, if◌then◌else◌, replicate}
use Rattle.std.specs.List.{list_any}
use Rattle.std.specs.Option.{option_map_or}
use Rattle.std.specs.Result.{result_ok}
use Rattle.ppd_ast.specs.declared.program.Expr.{Expr}
use Rattle.ppd_ast.specs.declared.program.Kind.{Kind}
use Rattle.ppd_ast.specs.declared.program.Kind.TheVariants as kind
use Rattle.ppd_ast.specs.declared.plan.BlockKind.TheVariants as block
use Rattle.ppd_ast.specs.declared.program.Program.{Program}
use Rattle.ppd_ast.specs.declared.plan.Plan.{Plan}
use Rattle.ppd_ast.specs.declared.status.Trap.{Trap as TrapOf}
use Rattle.ppd_ast.specs.Term.{term}
use Rattle.ppd_ast.specs.Lookups.{kind_of}
use Rattle.ppd_sem.specs.declared.proc.Need.{Need}
use Rattle.ppd_sem.specs.declared.proc.Need.TheVariants.{Read, Enter, Done, Trap, Budget, Stopped}
use Rattle.ppd_sem.specs.declared.proc.Answer.{Answer}
use Rattle.ppd_sem.specs.declared.proc.Proc.{Proc}
use Rattle.ppd_sem.specs.declared.proc.Todo.{Todo}
use Rattle.ppd_sem.specs.declared.event.Access.{Access}
use Rattle.ppd_sem.specs.declared.event.Event.{Event}
use Rattle.ppd_sem.specs.declared.event.Spot.TheVariants as spot
use Rattle.ppd_sem.specs.Asked.{Asked}
use Rattle.ppd_sem.specs.Ask.{ask}
use Rattle.ppd_sem.specs.Deed.{Deed, set_local, set_shared, clear, invoke, receive}
use Rattle.ppd_sem.specs.Reads.{reads_of_kind, local_accesses}
use Rattle.ppd_sem.specs.Tables.{block_of}
use Rattle.ppd_sem.specs.Process.{head_deed, need_of, value_of, top_frame}

-- ---- the frame of the innermost interval is 0, one that it called is 1

abbrev pub ends_body : Kind → Bool
ends_body (kind.Return e) = true
ends_body kind.End = true
ends_body k = false

-- a block loop runs in the top frame, whose part of what is to do goes up to the statement that ends its body
abbrev pub is_in_loop : Program → List Todo → Bool
is_in_loop program todo =
    list_any (λ t. t.entered) (take_while (λ t. not (ends_body (kind_of program t.stmt))) todo)

abbrev pub is_block : Plan → ℕ → Bool
is_block plan body = is_some (block_of plan (block.Function body)) || is_some (block_of plan (block.Process body))

-- the top frame is that of an interval where a block loop runs in it, or its body is a block
abbrev pub frame_of : Program → Plan → Proc → ℕ
frame_of program plan s = if is_in_loop program s.todo || is_block plan (top_frame s.frames).body then 0 else 1

-- ---- writes and value

-- a return has no write: its value is written by the caller's receiving local
abbrev pub writes_of_deed : ℕ → Answer → Deed → List Access
writes_of_deed frame a (set_local c v) = local_accesses frame c (v ∷ [])
writes_of_deed frame a (set_shared c v) = record { spot = spot.Shared c; value = v } ∷ []
writes_of_deed frame a (clear base len) = local_accesses frame base (replicate len (pos 0))
writes_of_deed frame a (invoke f values into) = local_accesses (frame + 1) 0 values
writes_of_deed frame a (receive chan into) = local_accesses frame into (value_of a ∷ [])
writes_of_deed frame a deed = []

-- the trap of a step
abbrev pub trap_of : Need → Option TrapOf
trap_of (Trap t) = Some t
trap_of need = None

-- a step that traps writes nothing
abbrev pub writes_by : Option TrapOf → ℕ → Answer → Asked Deed → List Access
writes_by (Some t) frame a asked = []
writes_by None frame a asked = option_map_or (λ p. writes_of_deed frame a p.0) (result_ok asked) []

-- the expression whose value is the event's: of a test, a returned value, a sent value, a print and an assertion
abbrev pub valued : Kind → Option ℕ
valued (kind.If e first second) = Some e
valued (kind.While e body) = Some e
valued (kind.Return e) = e
valued (kind.Send c e) = Some e
valued (kind.Print e) = Some e
valued (kind.Assert e) = Some e
valued k = None

abbrev pub value_at : List Expr → List ℤ → List ℤ → Option ℕ → Option ℤ
value_at es cells answers None = None
value_at es cells answers (Some e) = option_map (λ p. p.0) (result_ok (ask (term es e) cells answers))

-- ---- the event

-- a step of this need finishes or traps a statement
abbrev pub is_event : Need → Bool
is_event (Read c) = false
is_event (Enter b u) = false
is_event Budget = false
is_event Stopped = false
is_event need = true

-- a step of this need evaluates its statement; a completion does not
abbrev pub evaluates : Need → Bool
evaluates (Done c u) = false
evaluates need = true

-- the event of the next step of a process whose head is t; its number is told by the world alone
abbrev pub described : Program → Plan → Proc → Todo → Answer → Event
described program plan s t a =
    let need = need_of program plan s in
    record {
      stmt = t.stmt;
      reads = if evaluates need
          then reads_of_kind (frame_of program plan s) program.exprs (kind_of program t.stmt)
          (top_frame s.frames).cells s.answers else [];
      writes = writes_by (trap_of need) (frame_of program plan s) a (head_deed program t s);
      value = if evaluates need
          then value_at program.exprs (top_frame s.frames).cells s.answers (valued (kind_of program t.stmt)) else None;
      number = None;
      trap = trap_of need;
    }
