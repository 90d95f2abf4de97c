-- The state of one process: what its next step needs, and the state after that step.
use Rattle.std.specs.Prelude.{ℕ, ◌+◌, ◌-◌, nat_lt, ℤ, pos, List, [], ◌∷◌, ◌++◌, map, true, false, zero, suc, length, drop, replicate, slice_set, slice_get, unwrap_or, Option, Some, None, Ok, Err, if◌then◌else◌}
use Rattle.std.specs.Option.{option_map_or}
use Rattle.std.specs.List.{range_with_len}
use Rattle.ppd_ast.specs.declared.program.Kind.{Kind}
use Rattle.ppd_ast.specs.declared.program.Kind.TheVariants as kind
use Rattle.ppd_ast.specs.declared.program.Program.{Program}
use Rattle.ppd_ast.specs.declared.plan.Plan.{Plan}
use Rattle.ppd_ast.specs.declared.plan.Start.TheVariants as start
use Rattle.ppd_ast.specs.declared.plan.BlockKind.TheVariants as block
use Rattle.ppd_ast.specs.declared.status.Trap.TheVariants as trap
use Rattle.ppd_ast.specs.declared.status.Status.TheVariants as status
use Rattle.ppd_ast.specs.Lookups.{kind_of, body_numbered}
use Rattle.ppd_ast.specs.declared.limits.TheConstants.{MOST_CALLS}
use Rattle.ppd_sem.specs.declared.proc.Need.{Need}
use Rattle.ppd_sem.specs.declared.proc.Need.TheVariants.{Read, Write, Plain, Enter, Leave, Invoke, Back, P, V, Send, Offer, Done, Recv, End, Trap, Budget, Stopped}
use Rattle.ppd_sem.specs.declared.proc.Answer.{Answer}
use Rattle.ppd_sem.specs.declared.proc.Answer.TheVariants.{Value, Go}
use Rattle.ppd_sem.specs.declared.proc.Frame.{Frame}
use Rattle.ppd_sem.specs.declared.proc.Todo.{Todo}
use Rattle.ppd_sem.specs.declared.proc.Proc.{Proc}
use Rattle.ppd_sem.specs.declared.asking.Pause.TheVariants.{Wants, Traps}
use Rattle.ppd_sem.specs.Asked.{Asked}
use Rattle.ppd_sem.specs.Deed.{Deed, set_local, set_shared, clear, branch, turn, leave, invoke, back, take, give, send, receive, print, finish, ask_deed}
use Rattle.ppd_sem.specs.Tables.{capacity_of, block_of, unit_of, prelog_cells, postlog_cells, unit_length, returned_length}

-- ---- the head

-- the top frame: its body, its cells, and the call that began it, if this process state has the frame below it
abbrev pub top_frame : List Frame → Frame
top_frame [] = record { body = 0; cells = []; call = None }
top_frame (f ∷ fs) = f

-- what the head statement asks for, or what it does once its values are there
abbrev pub head_deed : Program → Todo → Proc → Asked Deed
head_deed program t s = ask_deed program.exprs (kind_of program t.stmt) (top_frame s.frames).cells s.answers

-- ---- the need

-- the unit after the call that began the top frame
abbrev pub call_unit : Plan → Option ℕ → Option ℕ
call_unit plan None = None
call_unit plan (Some c) = Some (unit_of plan (start.After c))

-- a loop that ends, by its block
abbrev pub need_of_leaving : Plan → ℕ → Option ℕ → Need
need_of_leaving plan t None = Plain
need_of_leaving plan t (Some b) = Leave b (unit_of plan (start.Exit t))

-- a send, which on a channel of capacity 0 begins with its offer
abbrev pub need_of_send : Plan → ℕ → (capacity chan : ℕ) → ℤ → Need
need_of_send plan t zero chan value = Offer chan value
need_of_send plan t (suc n) chan value = Send chan value (unit_of plan (start.After t))

-- t is the statement; a call is too deep where the most are open: those of the first frame, and one for each frame
-- above it
abbrev pub need_of_deed : Program → Plan → ℕ → Proc → Deed → Need
need_of_deed program plan t s (set_shared c v) = Write c v
need_of_deed program plan t s leave = need_of_leaving plan t (block_of plan (block.Loop t))
need_of_deed program plan t s (invoke f values into) =
    if nat_lt MOST_CALLS (s.below + length s.frames) then Trap trap.Depth
    else Invoke (block_of plan (block.Function f)) (unit_of plan (start.Entry f))
need_of_deed program plan t s (back value) =
    Back (block_of plan (block.Function (top_frame s.frames).body)) (call_unit plan (top_frame s.frames).call)
need_of_deed program plan t s (take sem) = P sem (unit_of plan (start.After t))
need_of_deed program plan t s (give sem) = V sem (unit_of plan (start.After t))
need_of_deed program plan t s (send chan value) = need_of_send plan t (capacity_of program chan) chan value
need_of_deed program plan t s (receive chan into) = Recv chan (unit_of plan (start.After t))
need_of_deed program plan t s finish = End (unwrap_or (block_of plan (block.Process (top_frame s.frames).body)) 0)
need_of_deed program plan t s deed = Plain

abbrev pub need_of_asked : Program → Plan → ℕ → Proc → Asked Deed → Need
need_of_asked program plan t s (Ok p) = need_of_deed program plan t s p.0
need_of_asked program plan t s (Err (Wants cell)) = Read cell
need_of_asked program plan t s (Err (Traps reason)) = Trap reason

-- the block of a loop that the process has yet to enter
abbrev pub loop_of : Plan → ℕ → Kind → Option ℕ
loop_of plan t (kind.While e body) = block_of plan (block.Loop t)
loop_of plan t k = None

abbrev pub entry_of : Program → Plan → Todo → Option ℕ
entry_of program plan t = if t.entered then None else loop_of plan t.stmt (kind_of program t.stmt)

-- the channel of a send
abbrev pub chan_of : Kind → Option ℕ
chan_of (kind.Send chan e) = Some chan
chan_of k = None

-- the channel of a send whose offer was taken
abbrev pub offer_of : Program → Todo → Option ℕ
offer_of program t = if t.offered then chan_of (kind_of program t.stmt) else None

-- a send whose offer was taken is completed, and asks for nothing more; else a block that is yet to be entered
-- comes first
abbrev pub need_of_head : Program → Plan → Todo → Proc → Need
need_of_head program plan t s =
    option_map_or (λ chan. Done chan (unit_of plan (start.After t.stmt))) (offer_of program t)
    (option_map_or (λ b. Enter b (unit_of plan (start.Enter t.stmt))) (entry_of program plan t)
    (need_of_asked program plan t.stmt s (head_deed program t s)))

-- the values in the prelog, postlog and unit entries that the step writes
abbrev pub values_of : Plan → Need → ℕ
values_of plan (Enter b u) = length (prelog_cells plan b) + unit_length plan u
values_of plan (Leave b u) = length (postlog_cells plan b) + unit_length plan u
values_of plan (Invoke None u) = unit_length plan u
values_of plan (Invoke (Some b) u) = length (prelog_cells plan b) + unit_length plan u
values_of plan (Back b None) = returned_length plan b
values_of plan (Back b (Some u)) = returned_length plan b + unit_length plan u
values_of plan (P s u) = unit_length plan u
values_of plan (V s u) = unit_length plan u
values_of plan (Send c v u) = unit_length plan u
values_of plan (Done c u) = unit_length plan u
values_of plan (Recv c u) = unit_length plan u
values_of plan need = 0

abbrev pub cost : Plan → Need → ℕ
cost plan need = 1 + values_of plan need

-- the need, where its step can still be paid for
abbrev pub within_budget : Plan → Proc → Need → Need
within_budget plan s need = if nat_lt s.budget (s.spent + cost plan need) then Budget else need

-- what the next step needs: nothing once a status is there, or where nothing is to do
abbrev pub need_of : Program → Plan → Proc → Need
need_of program plan s =
    option_map_or (λ _. Stopped) s.status
    (option_map_or (λ t. within_budget plan s (need_of_head program plan t s)) (slice_get s.todo 0) Stopped)

-- ---- frames and statements

abbrev pub todos : List ℕ → List Todo
todos stmts = map (λ s. record { stmt = s; entered = false; offered = false }) stmts

-- the frames with this done to the cells of the top one
abbrev pub on_top : (List ℤ → List ℤ) → List Frame → List Frame
on_top change [] = []
on_top change (f ∷ fs) = record f { cells = change f.cells } ∷ fs

-- the cells with these values written at these numbers
abbrev pub with_values : List ℕ → List ℤ → List ℤ → List ℤ
with_values (c ∷ cs) (v ∷ vs) cells = with_values cs vs (slice_set cells c v)
with_values cs vs cells = cells

-- the parameters' values, and zeros
abbrev pub new_frame : Program → ℕ → List ℤ → Option ℕ → Frame
new_frame program f values call = record {
  body = f;
  cells = option_map_or (λ b. values ++ replicate (b.cells - length values) (pos 0))
      (slice_get program.bodies f) values;
  call = call;
}

abbrev pub into_of : Kind → Option ℕ
into_of (kind.Call f arguments into) = into
into_of k = None

-- the local that receives the value of a call, if there is a call
abbrev pub into_at : Program → Option ℕ → Option ℕ
into_at program None = None
into_at program (Some c) = into_of (kind_of program c)

abbrev pub receive_at : Option ℕ → Option ℤ → List Frame → List Frame
receive_at (Some c) (Some v) frames = on_top (λ cells. slice_set cells c v) frames
receive_at into value frames = frames

-- the frames after a return, which writes the receiving local of the caller
abbrev pub returned : Program → Option ℤ → List Frame → List Frame
returned program value [] = []
returned program value (f ∷ fs) = receive_at (into_at program f.call) value fs

-- ---- the step

abbrev pub value_of : Answer → ℤ
value_of (Value v) = v
value_of Go = pos 0

-- t is the head, and ts what is to do after it
abbrev pub act_by_deed : Program → Answer → Todo → List Todo → Deed → Proc → Proc
act_by_deed program a t ts (set_local c v) s =
    record s { todo = ts; frames = on_top (λ cells. slice_set cells c v) s.frames }
act_by_deed program a t ts (clear base len) s =
    record s { todo = ts; frames = on_top (with_values (range_with_len base len) (replicate len (pos 0))) s.frames }
act_by_deed program a t ts (branch stmts) s = record s { todo = todos stmts ++ ts }
act_by_deed program a t ts (turn stmts) s = record s { todo = todos stmts ++ t ∷ ts }
act_by_deed program a t ts (invoke f values into) s =
    record s {
      todo = todos (body_numbered program f).top ++ ts;
      frames = new_frame program f values (Some t.stmt) ∷ s.frames;
    }
act_by_deed program a t ts (back value) s = record s { todo = ts; frames = returned program value s.frames }
act_by_deed program a t ts (receive chan into) s =
    record s { todo = ts; frames = on_top (λ cells. slice_set cells into (value_of a)) s.frames }
act_by_deed program a t ts (print v) s = record s { todo = ts; prints = s.prints ++ v ∷ [] }
act_by_deed program a t ts finish s = record s { todo = ts; status = Some status.Ended }
act_by_deed program a t ts deed s = record s { todo = ts }

-- a statement that finishes drops its answers
abbrev pub act_by_asked : Program → Answer → Todo → List Todo → Asked Deed → Proc → Proc
act_by_asked program a t ts (Ok p) s = act_by_deed program a t ts p.0 (record s { answers = [] })
act_by_asked program a t ts (Err (Wants cell)) s = record s { answers = s.answers ++ value_of a ∷ [] }
act_by_asked program a t ts (Err (Traps trap)) s = record s { status = Some (status.Trap trap) }

abbrev pub charged : Plan → Need → Proc → Proc
charged plan need s = record s { spent = s.spent + cost plan need; steps = s.steps + 1 }

abbrev pub act_by_need : Program → Plan → Answer → Todo → List Todo → Need → Proc → Proc
act_by_need program plan a t ts Stopped s = s
act_by_need program plan a t ts Budget s = record s { status = Some status.Budget }
act_by_need program plan a t ts (Enter b u) s =
    charged plan (Enter b u) (record s { todo = record t { entered = true } ∷ ts })
act_by_need program plan a t ts (Offer c v) s =
    charged plan (Offer c v) (record s { todo = record t { offered = true } ∷ ts; answers = [] })
act_by_need program plan a t ts (Done c u) s = charged plan (Done c u) (record s { todo = ts; answers = [] })
act_by_need program plan a t ts (Trap trap) s = charged plan (Trap trap) (record s { status = Some (status.Trap trap) })
act_by_need program plan a t ts need s = charged plan need (act_by_asked program a t ts (head_deed program t s) s)

-- the state after the next step, with this answer to its need
abbrev pub act : Program → Plan → Proc → Answer → Proc
act program plan s a =
    option_map_or (λ t. act_by_need program plan a t (drop 1 s.todo) (need_of program plan s) s) (slice_get s.todo 0) s

-- ---- the start

-- a process before its first step: the processes are the bodies after the functions
abbrev pub started : Program → Plan → ℕ → ℕ → Proc
started program plan process budget =
    let body = program.functions + process in
    record {
      frames = new_frame program body [] None ∷ [];
      todo = todos (body_numbered program body).top;
      answers = [];
      below = 0;
      budget = budget;
      spent = 0;
      steps = 0;
      prints = [];
      status = None;
    }
