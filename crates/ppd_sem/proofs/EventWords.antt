-- Words of the proofs for the parts of an event and of what a step passes.
use Rattle.std.specs.Option.{option_map_or}
use Rattle.std.specs.Result.{result_ok}
use Rattle.std.specs.Prelude.{◌||◌, [], if◌then◌else◌, ℕ, ℤ, List, Option, None, Result, Ok, Err, Bool, not, option_map, option_and_then, take_while, int_div, pos}
use Rattle.std.specs.Ordering.{int_eq}
use Rattle.ppd_sem.specs.Ask.{is_in_64_bits}
use Rattle.ppd_ast.specs.declared.status.Trap.{Trap}
use Rattle.ppd_ast.specs.declared.status.Trap.TheVariants.{Overflow, Zero}
use Rattle.ppd_sem.specs.Asked.{Asked}
use Rattle.ppd_sem.specs.Described.{ends_body, is_in_loop, is_block, frame_of, writes_of_deed, trap_of, writes_by, valued, value_at, evaluates}
use Rattle.ppd_ast.specs.declared.program.Program.{Program}
use Rattle.ppd_ast.specs.declared.plan.Plan.{Plan}
use Rattle.ppd_ast.specs.Lookups.{kind_of}
use Rattle.ppd_sem.specs.declared.proc.Need.{Need}
use Rattle.ppd_sem.specs.declared.proc.Answer.{Answer}
use Rattle.ppd_sem.specs.declared.proc.Proc.{Proc}
use Rattle.ppd_sem.specs.declared.proc.Todo.{Todo}
use Rattle.ppd_sem.specs.declared.event.Access.{Access}
use Rattle.ppd_sem.specs.declared.event.Event.{Event}
use Rattle.ppd_sem.specs.Deed.{Deed}
use Rattle.ppd_sem.specs.Reads.{reads_of_kind}
use Rattle.ppd_sem.specs.Process.{head_deed, top_frame}
use Rattle.ppd_sem.specs.Passed.{arguments_by, result_by}

-- z, where y is not 0 and the quotient has 64 bits
abbrev pub divided : ℤ → ℤ → ℤ → Result ℤ Trap
divided x y z = if int_eq y (pos 0) then Err Zero else if is_in_64_bits (int_div x y) then Ok z else Err Overflow

-- what is to do in the top frame, up to the statement that ends its body
abbrev pub top_todo : Program → List Todo → List Todo
top_todo program todo = take_while (λ t. not (ends_body (kind_of program t.stmt))) todo

-- the top frame is that of an interval
abbrev pub has_interval : Program → Plan → Proc → Bool
has_interval program plan s = is_in_loop program s.todo || is_block plan (top_frame s.frames).body

-- the value that evaluation comes to, if it comes to one
abbrev pub value_if : Asked ℤ → Option ℤ
value_if asked = option_map (λ p. p.0) (result_ok asked)

-- the writes of a deed that is there
abbrev pub writes_of_asked : ℕ → Answer → Asked Deed → List Access
writes_of_asked frame a asked = option_map_or (λ p. writes_of_deed frame a p.0) (result_ok asked) []

-- the event of a step of this need
abbrev pub event_at : Program → Plan → Answer → Need → Proc → Todo → Event
event_at program plan a need s t = record {
  stmt = t.stmt;
  reads = if evaluates need
      then reads_of_kind (frame_of program plan s) program.exprs (kind_of program t.stmt)
      (top_frame s.frames).cells s.answers else [];
  writes = writes_by (trap_of need) (frame_of program plan s) a (head_deed program t s);
  value = if evaluates need
      then value_at program.exprs (top_frame s.frames).cells s.answers (valued (kind_of program t.stmt)) else None;
  number = None;
  trap = trap_of need;
}

-- the values with which a head statement calls
abbrev pub arguments_of_head : Program → Proc → Option Todo → List ℤ
arguments_of_head program s o = option_map_or (λ t. arguments_by (head_deed program t s)) o []

-- the value that a head statement returns, if any
abbrev pub result_of_head : Program → Proc → Option Todo → Option ℤ
result_of_head program s o = option_and_then (λ t. result_by (head_deed program t s)) o
