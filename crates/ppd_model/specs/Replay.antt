-- The replay of an interval: steps of a process state at its block, which take the pieces of its log in order.
use Rattle.ppd_ast.specs.declared.plan.Plan.{Plan}
use Rattle.ppd_ast.specs.declared.program.Program.{Program}
use Rattle.ppd_ast.specs.declared.status.Status.{Status}
use Rattle.ppd_ast.specs.declared.status.Status.TheVariants as status
use Rattle.ppd_model.specs.Fits.{fits, found_of, same_trap, wanted_of}
use Rattle.ppd_model.specs.declared.block_trace.BlockTrace.{BlockTrace}
use Rattle.ppd_model.specs.declared.block_trace.EmulError.{EmulError}
use Rattle.ppd_model.specs.declared.block_trace.EmulError.TheVariants.{Diverged}
use Rattle.ppd_model.specs.declared.wanted.Wanted.{Wanted}
use Rattle.ppd_model.specs.declared.wanted.Wanted.TheVariants as wanted
use Rattle.ppd_model.specs.IntervalLogs.{IntervalLog}
use Rattle.ppd_model.specs.Pieces.{Piece, finish, nested, sync, unfinished, unit}
use Rattle.ppd_model.specs.Story.{unit_started}
use Rattle.ppd_model.specs.Synchronizations.{kind_of_sync}
use Rattle.ppd_model.specs.declared.flow.Item.{Item}
use Rattle.ppd_model.specs.declared.flow.Item.TheVariants as item
use Rattle.ppd_sem.specs.Blocks.{at_block, block_kind, block_unit, skipped, unit_past}
use Rattle.ppd_sem.specs.Described.{described}
use Rattle.ppd_sem.specs.Process.{act, need_of}
use Rattle.ppd_sem.specs.declared.proc.Answer.{Answer}
use Rattle.ppd_sem.specs.declared.proc.Answer.TheVariants.{Go, Value}
use Rattle.ppd_sem.specs.declared.proc.Need.{Need}
use Rattle.ppd_sem.specs.declared.proc.Need.TheVariants.{Budget, Invoke, Read, Recv, Stopped, Trap, Write}
use Rattle.ppd_sem.specs.declared.proc.Proc.{Proc}
use Rattle.std.specs.Option.{option_map_or}
use Rattle.std.specs.Prelude.{Bool, Err, List, None, Ok, Option, Result, Some, [], drop, false, get_or, if◌then◌else◌, is_some, nat_eq, pos, slice_get, suc, true, unwrap_or, zero, zip, ℕ, ℤ, ◌++◌, ◌+◌, ◌∷◌}

-- a replay on its way: the process state; the shared values in force, with an own write before the
-- values of the last unit; the pieces that are left, each with the number of its entry; the steps
-- since the last piece, and all steps; and the items so far
pub record Replaying : Type 0 where
  pub proc : Proc
  pub in_force : List (ℕ × ℤ)
  pub pieces : List (ℕ × Piece)
  pub since : ℕ
  pub steps : ℕ
  pub items : List Item

-- a replay that is over: the steps that it took, and its items or why it could not go on
pub record Replayed : Type 0 where
  pub steps : ℕ
  pub answer : Result BlockTrace EmulError

-- a replay goes on, or is over
pub data Turn : Type 0 where
  more : Replaying → Turn
  done : Replayed → Turn

-- ---- pieces

-- the next piece with the number of its entry; a log that is over has an end that fits nothing
abbrev pub next_piece : Replaying → ℕ × Piece
next_piece r = get_or r.pieces 0 (0, finish status.Ended 0)

-- the replay is over, with its items
abbrev pub finished : Replaying → Turn
finished r = done (record { steps = r.steps; answer = Ok (record { items = r.items }) })

-- the replay cannot go on, since the next piece is not the one that it needs
abbrev pub fail : Replaying → Wanted → Turn
fail r w = done (record { steps = r.steps; answer = Err (Diverged (next_piece r).0 w (found_of (next_piece r).1)) })

-- the next piece is taken
abbrev pub past_piece : Replaying → Replaying
past_piece r = record r { pieces = drop 1 r.pieces; since = 0 }

-- the start of a unit sets the values in force
abbrev pub unit_taken : Plan → ℕ → Piece → Replaying → Replaying
unit_taken plan u (unit v values) r =
    record (past_piece r) { in_force = zip (option_map_or (λ u. u.cells) (slice_get plan.units u) []) values }
unit_taken plan u piece r = r

-- a unit starts, if one does: the next piece has to be that
abbrev pub take_unit : Plan → Option ℕ → Replaying → Turn
take_unit plan None r = more r
take_unit plan (Some u) r =
    if fits (wanted.Unit u) (found_of (next_piece r).1) then more (unit_taken plan u (next_piece r).1 r)
    else fail r (wanted.Unit u)

-- ---- steps

-- the last own write of the cell since the last unit, else its value in that unit, else 0
abbrev pub value_in_force : List (ℕ × ℤ) → ℕ → ℤ
value_in_force [] c = pos 0
value_in_force (x ∷ xs) c = if nat_eq x.0 c then x.1 else value_in_force xs c

-- one step more
abbrev pub counted : Replaying → Replaying
counted r = record r { since = r.since + 1; steps = r.steps + 1 }

-- the process takes its step with this answer
abbrev pub stepped : Program → Plan → Answer → Replaying → Replaying
stepped program plan a r = counted (record r { proc = act program plan r.proc a })

-- one item more
abbrev pub with_item : Item → Replaying → Replaying
with_item i r = record r { items = r.items ++ i ∷ [] }

-- the event of the next step is an item, with the number of a synchronization
abbrev pub with_event : Program → Plan → Answer → Option ℕ → Replaying → Replaying
with_event program plan a number r =
    option_map_or (λ t. with_item (item.Own (record (described program plan r.proc t a) { number = number })) r)
    (slice_get r.proc.todo 0) r

-- an own write is in force
abbrev pub with_write : Need → Replaying → Replaying
with_write (Write c v) r = record r { in_force = (c, v) ∷ r.in_force }
with_write need r = r

-- ---- a step that needs a piece, which is there

-- a receive takes the value of its piece
abbrev pub received : Need → ℤ → Answer
received (Recv o u) v = Value v
received need v = Go

-- the call of a nested interval is an event, the entry of a loop is none
abbrev pub with_call : Program → Plan → Need → Replaying → Replaying
with_call program plan (Invoke b u) r = with_event program plan Go None r
with_call program plan need r = r

-- a step whose piece is there: a synchronization, with its number and the value of its piece; a nested interval that
-- was left, whose postlog is applied in its place, and the unit after it starts; an interval that was not left and the
-- own postlog end the replay
abbrev pub step_with : Program → Plan → Need → Piece → Replaying → Turn
step_with program plan need (sync kind object number value) r =
    let a = received need value in
    take_unit plan (unit_started need)
    (past_piece (stepped program plan a (with_event program plan a (Some number) r)))
step_with program plan need (nested k b values) r =
    let after = with_item (item.Nested k b values true) (with_call program plan need r) in
    take_unit plan (Some (unit_past plan r.proc.todo need))
    (past_piece (counted (record after { proc = skipped program plan values r.proc })))
step_with program plan need (unfinished k b) r =
    finished (counted (with_item (item.Nested k b [] false) (with_call program plan need r)))
step_with program plan need piece r = finished (counted (with_event program plan Go None r))

-- ---- a step that needs none

-- a read is answered by the values in force; any other step is an event, and may start a unit
abbrev pub step_without : Program → Plan → Need → Replaying → Turn
step_without program plan (Read c) r = more (stepped program plan (Value (value_in_force r.in_force c)) r)
step_without program plan Stopped r = fail r wanted.Fewer
step_without program plan need r =
    take_unit plan (unit_started need)
    (stepped program plan Go (with_write need (with_event program plan Go None r)))

-- ---- one turn

-- the step is taken if it needs no piece, or if the next piece is that
abbrev pub turn_by_wanted : Program → Plan → Need → Option Wanted → Replaying → Turn
turn_by_wanted program plan need None r = step_without program plan need r
turn_by_wanted program plan need (Some w) r =
    if fits w (found_of (next_piece r).1) then step_with program plan need (next_piece r).1 r else fail r w

-- the process has to end before its next step, but it would go on
abbrev pub goes_on : Program → Plan → Need → Replaying → Turn
goes_on program plan need r = fail r (unwrap_or (wanted_of program plan r.proc need) wanted.Fewer)

-- how the process ended, where the piece is its end and these steps are those before it
abbrev pub end_here : ℕ → Piece → Option Status
end_here since (finish s rest) = if nat_eq since rest then Some s else None
end_here since piece = None

-- the turn of a process that ended so after its steps, if it ended here. A stop for the budget ends the replay whatever
-- comes next, and else the budget may not be exceeded; a process that was blocked, or that trapped, ends it where its
-- next step is a synchronization, or traps so
abbrev pub turn_by_end : Program → Plan → Option Status → Need → Replaying → Turn
turn_by_end program plan (Some status.Budget) need r = finished r
turn_by_end program plan how Budget r = fail r wanted.Fewer
turn_by_end program plan None need r = turn_by_wanted program plan need (wanted_of program plan r.proc need) r
turn_by_end program plan (Some status.Blocked) need r =
    if is_some (kind_of_sync need) then finished r else goes_on program plan need r
turn_by_end program plan (Some (status.Trap t)) (Trap t') r =
    if same_trap t t' then finished (counted (with_event program plan Go None r))
    else fail r (wanted.End (status.Trap t'))
turn_by_end program plan (Some s) need r = goes_on program plan need r

-- the step costs more than is left
abbrev pub is_budget : Need → Bool
is_budget Budget = true
is_budget need = false

-- one turn takes one step, or ends the replay
abbrev pub turn : Program → Plan → Replaying → Turn
turn program plan r = turn_by_end program plan (end_here r.since (next_piece r).1) (need_of program plan r.proc) r

-- ---- the replay

-- what comes of a turn
abbrev pub go_on : Turn → (Replaying → Replayed) → Replayed
go_on (more r) next = next r
go_on (done x) next = x

-- so many turns at most; each that goes on costs at least 1, so one more than the budget are enough
abbrev pub replay_from : Program → Plan → ℕ → Replaying → Replayed
replay_from program plan zero r =
    record { steps = r.steps; answer = Err (Diverged (next_piece r).0 wanted.Fewer (found_of (next_piece r).1)) }
replay_from program plan (suc turns) r = go_on (turn program plan r) (replay_from program plan turns)

-- before the first piece
abbrev pub begun_replay : Program → Plan → IntervalLog → ℕ → Replaying
begun_replay program plan l budget = record {
  proc = at_block program plan l.block l.values l.depth budget;
  in_force = [];
  pieces = l.pieces;
  since = 0;
  steps = 0;
  items = [];
}

-- the replay of an interval from its log, within a budget: the first piece is the unit of the
-- block's own start
abbrev pub replay : Program → Plan → IntervalLog → ℕ → Replayed
replay program plan l budget =
    go_on (take_unit plan (Some (block_unit plan (block_kind plan l.block))) (begun_replay program plan l budget))
    (replay_from program plan (budget + 1))
