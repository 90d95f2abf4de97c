-- The replay of an interval, one constructor for each rule.
use Rattle.std.specs.Option.{option_map_or}
use Rattle.std.specs.Prelude.{◌≡◌, ◌≢◌, ◌↔◌, ℕ, ℤ, true, false, List, [], zip, slice_get, Option, Some, None, unwrap_or, ⊤}
use Rattle.ppd_ast.specs.declared.plan.Plan.{Plan}
use Rattle.ppd_ast.specs.declared.program.Program.{Program}
use Rattle.ppd_ast.specs.declared.status.Status.{Status}
use Rattle.ppd_ast.specs.declared.status.Status.TheVariants as status
use Rattle.ppd_ast.specs.declared.status.SyncKind.{SyncKind}
use Rattle.ppd_ast.specs.declared.status.Trap.{Trap as TrapOf}
use Rattle.ppd_model.specs.IntervalLogs.{IntervalLog}
use Rattle.ppd_model.specs.Pieces.{unit, sync, nested, unfinished, postlog, finish}
use Rattle.ppd_sem.specs.declared.proc.Answer.TheVariants.{Value, Go}
use Rattle.ppd_sem.specs.declared.proc.Need.{Need}
use Rattle.ppd_sem.specs.declared.proc.Need.TheVariants.{Read, Trap, Budget, Stopped}
use Rattle.ppd_sem.specs.Blocks.{block_kind, block_unit, skipped, unit_past}
use Rattle.ppd_sem.specs.Described.{trap_of}
use Rattle.ppd_sem.specs.Process.{need_of}
use Rattle.ppd_model.specs.declared.flow.Item.TheVariants as item
use Rattle.ppd_model.specs.Story.{unit_started}
use Rattle.ppd_model.specs.Synchronizations.{kind_of_sync}
use Rattle.ppd_model.specs.declared.wanted.Wanted.{Wanted}
use Rattle.ppd_model.specs.declared.wanted.Wanted.TheVariants as wanted
use Rattle.ppd_model.specs.Fits.{found_of, wanted_of, fits}
use Rattle.ppd_model.specs.Replay.{Replaying, Replayed, Turn, more, done, begun_replay, counted, fail, finished, next_piece, past_piece, received, replay, stepped, turn, value_in_force, with_call, with_event, with_item, with_write}

-- ---- the start of a unit

-- no unit starts; or unit u does, and the next piece is that, whose values are in force from here on; or it is not
pub data Starts (plan : Plan) (r : Replaying) : Option ℕ → Turn → Type 0 where
  no_unit : Starts plan r None (more r)
  unit_is_next : (u : ℕ) (values : List ℤ) → (next_piece r).1 ≡ unit u values → Starts plan r (Some u)
      (more (record (past_piece r) {
        in_force = zip (option_map_or (λ u. u.cells) (slice_get plan.units u) []) values;
      }))
  other_is_next : (u : ℕ) → ((values : List ℤ) → (next_piece r).1 ≢ unit u values)
      → Starts plan r (Some u) (fail r (wanted.Unit u))

-- ---- the end of the process

-- the process ended so here: the next piece is its end, with as many steps as there were since the last piece
abbrev pub EndsHere : Replaying → Status → Type 0
EndsHere r s = (next_piece r).1 ≡ finish s r.since

-- it did not end here
abbrev pub EndsLater : Replaying → Type 0
EndsLater r = (s : Status) → EndsHere r s → ⊥

-- a process that does next what it needs is not at that end: it neither waits nor traps
abbrev pub IsNotAt : Status → Need → Type 0
IsNotAt status.Blocked need = kind_of_sync need ≡ None
IsNotAt (status.Trap t) need = trap_of need ≡ None
IsNotAt status.Ended need = ⊤
IsNotAt status.Budget need = ⊥

-- ---- a turn, which takes one step or ends the replay

module _ (program : Program) (plan : Plan) (r : Replaying) where
  -- what the next step needs the next piece to be, if it needs one
  abbrev pub Needs : Need → Option Wanted → Type 0
  Needs need w = wanted_of program plan r.proc need ≡ w

  -- this piece is the one that is needed
  abbrev pub Fits : Wanted → Type 0
  Fits w = fits w (found_of (next_piece r).1) ≡ true

-- what comes of a turn of which the next step has this need
pub data Turns (program : Program) (plan : Plan) (r : Replaying) (need : Need) : Turn → Type 0 where
  -- the process was stopped here, since its next step would have cost more than was left: the replay is over
  stopped : EndsHere r status.Budget → Turns program plan r need (finished r)
  -- it was not, but the next step costs more than is left
  too_dear : (EndsHere r status.Budget → ⊥) → need ≡ Budget → Turns program plan r need (fail r wanted.Fewer)
  -- it waited here for ever, at a synchronization
  waits : (EndsHere r status.Blocked) → kind_of_sync need ≢ None → Turns program plan r need (finished r)
  -- it trapped here, as its next step does
  traps : (t : TrapOf) → EndsHere r (status.Trap t) → need ≡ Trap t
      → Turns program plan r need (finished (counted (with_event program plan Go None r)))
  -- its next step traps in another way
  traps_otherwise : (t t' : TrapOf) → EndsHere r (status.Trap t) → need ≡ Trap t' → t ≢ t'
      → Turns program plan r need (fail r (wanted.End (status.Trap t')))
  -- it ended here, and its next step is another one
  ends_too_early : (s : Status) → EndsHere r s → need ≢ Budget → IsNotAt s need
      → Turns program plan r need (fail r (unwrap_or (wanted_of program plan r.proc need) wanted.Fewer))
  -- a read is answered by the values in force
  reads : (c : ℕ) → EndsLater r → need ≡ Read c
      → Turns program plan r need (more (stepped program plan (Value (value_in_force r.in_force c)) r))
  -- the process came to its end, and the log goes on
  is_over : EndsLater r → need ≡ Stopped → Turns program plan r need (fail r wanted.Fewer)
  -- another step that needs no piece is an event; a write is in force from here on, and a unit may start
  needs_none : (t : Turn) → EndsLater r → ((c : ℕ) → need ≢ Read c) → need ≢ Stopped → need ≢ Budget
      → Needs program plan r need None
      → Starts plan (stepped program plan Go (with_write need (with_event program plan Go None r)))
      (unit_started need) t
      → Turns program plan r need t
  -- the next piece is not the one that is needed
  other_piece : (w : Wanted) → EndsLater r → Needs program plan r need (Some w) → (Fits program plan r w → ⊥)
      → Turns program plan r need (fail r w)
  -- a synchronization takes its number from the piece, and a receive its value; a unit may start
  synchronizes : (w : Wanted) (kind : SyncKind) (object number : ℕ) (value : ℤ) (t : Turn) → EndsLater r
      → Needs program plan r need (Some w) → Fits program plan r w → (next_piece r).1 ≡ sync kind object number value
      → Starts plan (past_piece (stepped program plan (received need value)
      (with_event program plan (received need value) (Some number) r))) (unit_started need) t
      → Turns program plan r need t
  -- an interval inside was left: its postlog is applied in its place, and the unit behind it starts
  skips : (w : Wanted) (k b : ℕ) (values : List ℤ) (t : Turn) → EndsLater r
      → Needs program plan r need (Some w) → Fits program plan r w → (next_piece r).1 ≡ nested k b values
      → Starts plan (past_piece (counted (record (with_item (item.Nested k b values true)
      (with_call program plan need r))
      { proc = skipped program plan values r.proc }))) (Some (unit_past plan r.proc.todo need)) t
      → Turns program plan r need t
  -- an interval inside was not left: nothing of this one came after it
  enters : (w : Wanted) (k b : ℕ) → EndsLater r → Needs program plan r need (Some w) → Fits program plan r w
      → (next_piece r).1 ≡ unfinished k b
      → Turns program plan r need (finished (counted (with_item (item.Nested k b [] false)
      (with_call program plan need r))))
  -- the interval is left
  leaves : (w : Wanted) (values : List ℤ) → EndsLater r → Needs program plan r need (Some w) → Fits program plan r w
      → (next_piece r).1 ≡ postlog values
      → Turns program plan r need (finished (counted (with_event program plan Go None r)))

-- ---- a replay

-- turns come to this
pub data Replays (program : Program) (plan : Plan) : Replaying → Replayed → Type 0 where
  ends : {r : Replaying} {x : Replayed} → Turns program plan r (need_of program plan r.proc) (done x)
      → Replays program plan r x
  goes_on : {r next : Replaying} {x : Replayed} → Turns program plan r (need_of program plan r.proc) (more next)
      → Replays program plan next x → Replays program plan r x

-- it is over with this, or goes on and comes to it
abbrev pub ComesTo : Program → Plan → Turn → Replayed → Type 0
ComesTo program plan (done y) x = y ≡ x
ComesTo program plan (more r) x = Replays program plan r x

-- the replay of an interval from its log, within a budget: first the unit of the block's own start, and then turns
pub record IsReplay (program : Program) (plan : Plan) (l : IntervalLog) (budget : ℕ) (x : Replayed) : Type 0 where
  pub begun : Turn
  pub first : Starts plan (begun_replay program plan l budget) (Some (block_unit plan (block_kind plan l.block))) begun
  pub comes : ComesTo program plan begun x

-- ---- the law

-- a turn is what a rule says
abbrev pub TurnsFollowTheRules : Type 0
TurnsFollowTheRules = (program : Program) (plan : Plan) (r : Replaying) (t : Turn)
    → Turns program plan r (need_of program plan r.proc) t ↔ (turn program plan r ≡ t)

-- so is a replay what turns by the rules come to
abbrev pub ReplaysFollowTheRules : Type 0
ReplaysFollowTheRules = (program : Program) (plan : Plan) (l : IntervalLog) (budget : ℕ) (x : Replayed)
    → IsReplay program plan l budget x ↔ (replay program plan l budget ≡ x)
