-- A turn of a replay adds at most two items, and none where it counts no step.
use Rattle.std.proofs.Common.{◌≡◌, ℕ, suc, ◌+◌, ◌*◌, ◌≤◌, ℤ, Bool, true, false, List, [], ◌∷◌, ◌++◌, Option, Some, None, Result, Ok, Err, refl, arith, length, length-append, if◌then◌else◌}
use Rattle.std.specs.Prelude.{is_some, ⊤}
use Rattle.ppd_ast.specs.declared.plan.Plan.{Plan}
use Rattle.ppd_ast.specs.declared.program.Program.{Program}
use Rattle.ppd_ast.specs.declared.status.Status.{Status}
use Rattle.ppd_ast.specs.declared.status.Status.TheVariants as status
use Rattle.ppd_model.specs.Pieces.{Piece, unit, sync, nested, unfinished, postlog, finish}
use Rattle.ppd_sem.specs.declared.proc.Answer.{Answer}
use Rattle.ppd_sem.specs.declared.proc.Answer.TheVariants.{Go}
use Rattle.ppd_sem.specs.declared.proc.Need.{Need}
use Rattle.ppd_sem.specs.declared.proc.Need.TheVariants.{Read, Write, Plain, Enter, Leave, Invoke, Back, P, V, Send, Offer, Done, Recv, End, Trap, Budget, Stopped}
use Rattle.ppd_sem.specs.declared.proc.Todo.{Todo}
use Rattle.ppd_sem.specs.Blocks.{skipped, unit_past}
use Rattle.ppd_sem.specs.Process.{need_of}
use Rattle.ppd_model.specs.declared.flow.Item.{Item}
use Rattle.ppd_model.specs.declared.flow.Item.TheVariants as item
use Rattle.ppd_model.specs.Story.{unit_started}
use Rattle.ppd_model.specs.Synchronizations.{kind_of_sync}
use Rattle.ppd_model.specs.declared.block_trace.BlockTrace.{BlockTrace}
use Rattle.ppd_model.specs.declared.block_trace.EmulError.{EmulError}
use Rattle.ppd_model.specs.declared.wanted.Wanted.{Wanted}
use Rattle.ppd_model.specs.declared.wanted.Wanted.TheVariants as wanted
use Rattle.ppd_model.specs.Fits.{found_of, wanted_of, same_trap, fits}
use Rattle.ppd_model.specs.Replay.{Replaying, Turn, more, done, counted, end_here, fail, finished, goes_on, next_piece, past_piece, received, step_with, step_without, stepped, take_unit, turn, turn_by_end, turn_by_wanted, unit_taken, with_call, with_event, with_item, with_write}
use Rattle.ppd_model.proofs.ReplayWords.{skip_nested, synchronize, with_event_of}

-- an answer's items, by the counts of steps and items before and the count of steps after
abbrev pub Few : (steps items after : ℕ) → Result BlockTrace EmulError → Type 0
Few steps items after (Ok t) = length t.items + 2 * steps ≤ items + 2 * after
Few steps items after (Err e) = ⊤

-- a turn adds at most two items, and none where it counts no step
abbrev pub Grows : Replaying → Turn → Type 0
Grows r (more next) = length next.items ≤ length r.items + 2
Grows r (done x) = Few r.steps (length r.items) x.steps x.answer

-- q is r with at most n items more
record Adds (n : ℕ) (r q : Replaying) : Type 0 where
  pub steps : q.steps ≡ r.steps
  pub items : length q.items ≤ length r.items + n

module _ (program : Program) (plan : Plan) where
  none_added : (r : Replaying) → Adds 0 r r
  none_added r = record { steps = refl; items = omega arith }

  item_added : (n : ℕ) (i : Item) (r q : Replaying) → Adds n r q → Adds (suc n) r (with_item i q)
  item_added n i r q adds =
      let all : length (q.items ++ i ∷ []) ≡ length q.items + 1 = length-append q.items (i ∷ []) in
      let few : length q.items ≤ length r.items + n = adds.items in
      record { steps = adds.steps; items = omega arith }

  event_of_added : (a : Answer) (number : Option ℕ) (todo : List Todo) (r : Replaying) → Adds 1 r (with_event_of program plan a number todo r)
  event_of_added a number [] r = record { steps = refl; items = omega arith }
  event_of_added a number (t ∷ ts) r = item_added 0 _ r r (none_added r)

  event_added : (a : Answer) (number : Option ℕ) (r : Replaying) → Adds 1 r (with_event program plan a number r)
  event_added a number r = event_of_added a number r.proc.todo r

  no_call : (r : Replaying) → Adds 1 r r
  no_call r = record { steps = refl; items = omega arith }

  call_added : (n : Need) (r : Replaying) → Adds 1 r (with_call program plan n r)
  call_added (Invoke b u) r = event_added Go None r
  call_added (Read c) r = no_call r
  call_added (Write c v) r = no_call r
  call_added Plain r = no_call r
  call_added (Enter b u) r = no_call r
  call_added (Leave b u) r = no_call r
  call_added (Back b u) r = no_call r
  call_added (P o u) r = no_call r
  call_added (V o u) r = no_call r
  call_added (Send c v u) r = no_call r
  call_added (Offer c v) r = no_call r
  call_added (Done c u) r = no_call r
  call_added (Recv c u) r = no_call r
  call_added (End b) r = no_call r
  call_added (Trap o) r = no_call r
  call_added Budget r = no_call r
  call_added Stopped r = no_call r

  -- the last step
  last_grows : (n : ℕ) (r q : Replaying) → n ≤ 2 → Adds n r q → Grows r (finished (counted q))
  last_grows n r q few adds =
      let steps : q.steps ≡ r.steps = adds.steps in
      let items : length q.items ≤ length r.items + n = adds.items in
      omega arith

  -- ---- the unit that starts

  unit_grows : (u : ℕ) (piece : Piece) (r q : Replaying) → length q.items ≤ length r.items + 2 → Grows r (more (unit_taken plan u piece q))
  unit_grows u (unit v values) r q few = few
  unit_grows u (sync kind object number value) r q few = few
  unit_grows u (nested k b values) r q few = few
  unit_grows u (unfinished k b) r q few = few
  unit_grows u (postlog values) r q few = few
  unit_grows u (finish how rest) r q few = few

  take_by : (u : ℕ) (r q : Replaying) (ok : Bool) → length q.items ≤ length r.items + 2 → Grows r (if ok then more (unit_taken plan u (next_piece q).1 q) else fail q (wanted.Unit u))
  take_by u r q true few = unit_grows u (next_piece q).1 r q few
  take_by u r q false few = tt

  take_grows : (u : ℕ) (r q : Replaying) → length q.items ≤ length r.items + 2 → Grows r (take_unit plan (Some u) q)
  take_grows u r q few = take_by u r q (fits (wanted.Unit u) (found_of (next_piece q).1)) few

  take_if_grows : (u : Option ℕ) (r q : Replaying) → length q.items ≤ length r.items + 2 → Grows r (take_unit plan u q)
  take_if_grows None r q few = few
  take_if_grows (Some u) r q few = take_grows u r q few

  -- ---- a step that needs a piece

  within : (n : ℕ) (r q : Replaying) → n ≤ 2 → Adds n r q → length q.items ≤ length r.items + 2
  within n r q few adds = let items : length q.items ≤ length r.items + n = adds.items in omega arith

  sync_grows : (n : Need) (number : ℕ) (value : ℤ) (r : Replaying) → Grows r (synchronize program plan n number value r)
  sync_grows n number value r =
      let a : Answer = received n value in
      let q : Replaying = with_event program plan a (Some number) r in
      take_if_grows (unit_started n) r (past_piece (stepped program plan a q)) (within 1 r q (omega arith) (event_added a (Some number) r))

  skip_grows : (n : Need) (k b : ℕ) (values : List ℤ) (r : Replaying) → Grows r (skip_nested program plan n k b values r)
  skip_grows n k b values r =
      let q : Replaying = with_item (item.Nested k b values true) (with_call program plan n r) in
      take_grows (unit_past plan r.proc.todo n) r (past_piece (counted (record q { proc = skipped program plan values r.proc })))
      (within 2 r q (omega arith) (item_added 1 (item.Nested k b values true) r (with_call program plan n r) (call_added n r)))

  with_grows : (n : Need) (piece : Piece) (r : Replaying) → Grows r (step_with program plan n piece r)
  with_grows n (sync kind object number value) r = sync_grows n number value r
  with_grows n (nested k b values) r = skip_grows n k b values r
  with_grows n (unfinished k b) r =
      last_grows 2 r (with_item (item.Nested k b [] false) (with_call program plan n r)) (omega arith)
      (item_added 1 (item.Nested k b [] false) r (with_call program plan n r) (call_added n r))
  with_grows n (unit u values) r = last_grows 1 r (with_event program plan Go None r) (omega arith) (event_added Go None r)
  with_grows n (postlog values) r = last_grows 1 r (with_event program plan Go None r) (omega arith) (event_added Go None r)
  with_grows n (finish how rest) r = last_grows 1 r (with_event program plan Go None r) (omega arith) (event_added Go None r)

  -- ---- a step that needs none
  plain_grows : (n : Need) (r : Replaying) → Grows r (take_unit plan (unit_started n) (stepped program plan Go (with_event program plan Go None r)))
  plain_grows n r =
      take_if_grows (unit_started n) r (stepped program plan Go (with_event program plan Go None r))
      (within 1 r (with_event program plan Go None r) (omega arith) (event_added Go None r))

  without_grows : (n : Need) (r : Replaying) → Grows r (step_without program plan n r)
  without_grows (Read c) r = omega arith
  without_grows (Write c v) r =
      take_if_grows (unit_started (Write c v)) r (stepped program plan Go (with_write (Write c v) (with_event program plan Go None r)))
      (within 1 r (with_event program plan Go None r) (omega arith) (event_added Go None r))
  without_grows Plain r = plain_grows Plain r
  without_grows (Enter b u) r = plain_grows (Enter b u) r
  without_grows (Leave b u) r = plain_grows (Leave b u) r
  without_grows (Invoke b u) r = plain_grows (Invoke b u) r
  without_grows (Back b u) r = plain_grows (Back b u) r
  without_grows (P o u) r = plain_grows (P o u) r
  without_grows (V o u) r = plain_grows (V o u) r
  without_grows (Send c v u) r = plain_grows (Send c v u) r
  without_grows (Offer c v) r = plain_grows (Offer c v) r
  without_grows (Done c u) r = plain_grows (Done c u) r
  without_grows (Recv c u) r = plain_grows (Recv c u) r
  without_grows (End b) r = plain_grows (End b) r
  without_grows (Trap o) r = plain_grows (Trap o) r
  without_grows Budget r = plain_grows Budget r
  without_grows Stopped r = tt

  -- ---- one turn
  either_grows : (r : Replaying) (ok : Bool) (t u : Turn) → Grows r t → Grows r u → Grows r (if ok then t else u)
  either_grows r true t u x y = x
  either_grows r false t u x y = y

  wanted_grows : (n : Need) (w : Option Wanted) (r : Replaying) → Grows r (turn_by_wanted program plan n w r)
  wanted_grows n None r = without_grows n r
  wanted_grows n (Some w) r =
      either_grows r (fits w (found_of (next_piece r).1)) (step_with program plan n (next_piece r).1 r) (fail r w)
      (with_grows n (next_piece r).1 r) tt

  over_grows : (r : Replaying) → Grows r (finished r)
  over_grows r = omega arith

  by_end_grows : (how : Option Status) (n : Need) (r : Replaying) → Grows r (turn_by_end program plan how n r)
  by_end_grows (Some status.Budget) n r = over_grows r
  by_end_grows how Budget r = tt
  by_end_grows None n r = wanted_grows n (wanted_of program plan r.proc n) r
  by_end_grows (Some status.Blocked) n r = either_grows r (is_some (kind_of_sync n)) (finished r) (goes_on program plan n r) (over_grows r) tt
  by_end_grows (Some (status.Trap t)) (Trap t') r =
      either_grows r (same_trap t t') (finished (counted (with_event program plan Go None r))) (fail r (wanted.End (status.Trap t')))
      (last_grows 1 r (with_event program plan Go None r) (omega arith) (event_added Go None r)) tt
  by_end_grows (Some s) n r = tt

  pub turn_grows : (r : Replaying) → Grows r (turn program plan r)
  turn_grows r = by_end_grows (end_here r.since (next_piece r).1) (need_of program plan r.proc) r
