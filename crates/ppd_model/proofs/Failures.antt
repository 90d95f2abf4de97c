-- Where a replay fails, what was found is not what was wanted, but where both are one trap.
use Rattle.std.proofs.Common.{◌≡◌, ℕ, zero, suc, ◌+◌, nat_eq, Bool, true, false, ◌&&◌, Option, Some, None, unwrap_or, Result, Ok, Err, is_some, refl, ap, sym, ◌∙◌, subst, if◌then◌else◌}
use Rattle.std.specs.Prelude.{⊤}
use Rattle.std.specs.Ordering.{int_eq}
use Rattle.std.proofs.lemmas.Cmp.{int_eq_equiv, lists_equiv, nat_eq_equiv}
use Rattle.ppd_ast.specs.declared.plan.Plan.{Plan}
use Rattle.ppd_ast.specs.declared.program.Program.{Program}
use Rattle.ppd_ast.specs.declared.status.Status.{Status}
use Rattle.ppd_ast.specs.declared.status.Status.TheVariants as status
use Rattle.ppd_ast.specs.declared.status.SyncKind.{SyncKind}
use Rattle.ppd_ast.specs.declared.status.SyncKind.TheVariants as sync_kind
use Rattle.ppd_model.specs.IntervalLogs.{IntervalLog}
use Rattle.ppd_model.specs.Pieces.{Piece, unit, sync, nested, unfinished, postlog, finish}
use Rattle.ppd_model.specs.Entries.{same_kind}
use Rattle.ppd_sem.specs.declared.proc.Need.{Need}
use Rattle.ppd_sem.specs.declared.proc.Need.TheVariants.{Read, Write, Plain, Enter, Leave, Invoke, Back, P, V, Send, Offer, Done, Recv, End, Trap, Budget, Stopped}
use Rattle.ppd_sem.specs.declared.proc.Proc.{Proc}
use Rattle.ppd_sem.specs.Blocks.{block_kind, block_unit, skipped, unit_past}
use Rattle.ppd_sem.specs.Process.{need_of}
use Rattle.ppd_model.specs.declared.flow.Item.TheVariants as item
use Rattle.ppd_model.specs.Story.{unit_started}
use Rattle.ppd_model.specs.Synchronizations.{kind_of_sync}
use Rattle.ppd_model.specs.declared.block_trace.BlockTrace.{BlockTrace}
use Rattle.ppd_model.specs.declared.block_trace.EmulError.{EmulError}
use Rattle.ppd_model.specs.declared.block_trace.EmulError.TheVariants.{Diverged, Memory}
use Rattle.ppd_model.specs.declared.wanted.Found.{Found}
use Rattle.ppd_model.specs.declared.wanted.Found.TheVariants as found
use Rattle.ppd_model.specs.declared.wanted.Wanted.{Wanted}
use Rattle.ppd_model.specs.declared.wanted.Wanted.TheVariants as wanted
use Rattle.ppd_model.specs.Fits.{found_of, wanted_of, same_trap, fits}
use Rattle.ppd_model.specs.Replay.{Replaying, Replayed, Turn, more, done, begun_replay, counted, end_here, fail, finished, go_on, goes_on, next_piece, replay, replay_from, step_with, step_without, take_unit, turn, turn_by_end, turn_by_wanted, unit_taken, with_event, with_call, with_item, with_write, past_piece, received, stepped}
use Rattle.ppd_model.specs.ReplayLaws.{as_found, FailuresDiffer, IsTrap}
use Rattle.ppd_sem.specs.declared.proc.Answer.TheVariants.{Go}

-- ---- what fits

no_some : {A : Type 0} (x : A) → None ≡ Some x → ⊥
no_some x e = cc

both : (a b : Bool) → a ≡ true → b ≡ true → (a && b) ≡ true
both true true x y = refl
both true false x y = y
both false b x y = x

kind_self : (k : SyncKind) → same_kind k k ≡ true
kind_self sync_kind.P = refl
kind_self sync_kind.V = refl
kind_self sync_kind.Send = refl
kind_self sync_kind.Recv = refl
kind_self sync_kind.Done = refl

-- any end
abbrev IsEnd : Wanted → Type 0
IsEnd (wanted.End how) = ⊤
IsEnd w = ⊥

-- what fits itself cannot be unfit
unfit_by : (w : Wanted) (x f : Found) → fits w x ≡ true → Some x ≡ Some f → fits w f ≡ false → ⊥
unfit_by w x f self is e =
    let same : x ≡ f = ap (λ (o : Option Found). unwrap_or o x) is in
    let clash : true ≡ false = sym self ∙ ap (λ (g : Found). fits w g) same ∙ e in
    cc

unfit : (w : Wanted) (f : Found) → fits w f ≡ false → as_found w ≡ Some f → IsEnd w
unfit (wanted.Unit u) f e is = unfit_by (wanted.Unit u) (found.Unit u) f (nat_eq_equiv.refl u) is e
unfit (wanted.Sync k o v) f e is =
    unfit_by (wanted.Sync k o v) (found.Sync k o v) f
    (both (same_kind k k && nat_eq o o) (int_eq v v) (both (same_kind k k) (nat_eq o o) (kind_self k) (nat_eq_equiv.refl o)) (int_eq_equiv.refl v)) is e
unfit (wanted.Nested b) f e is = unfit_by (wanted.Nested b) (found.Nested b) f (nat_eq_equiv.refl b) is e
unfit (wanted.Postlog vs) f e is = unfit_by (wanted.Postlog vs) (found.Postlog vs) f ((lists_equiv int_eq_equiv).refl vs) is e
unfit (wanted.End how) f e is = tt
unfit wanted.Fewer f e is = absurd (no_some f is)

-- what is wanted as an end is the end
end_wanted : (w : Wanted) (how : Status) → as_found w ≡ Some (found.End how) → IsEnd w
end_wanted (wanted.Unit u) how e = cc
end_wanted (wanted.Sync k o v) how e = cc
end_wanted (wanted.Nested b) how e = cc
end_wanted (wanted.Postlog vs) how e = cc
end_wanted (wanted.End x) how e = tt
end_wanted wanted.Fewer how e = absurd (no_some (found.End how) e)

-- a step wants no end but that of a trap
trap_by : (x w : Wanted) → Some x ≡ Some w → (IsEnd x → IsTrap x) → IsEnd w → IsTrap w
trap_by x w e h =
    let same : x ≡ w = ap (λ (o : Option Wanted). unwrap_or o x) e in
    subst (λ (y : Wanted). IsEnd y → IsTrap y) same h

module _ (program : Program) (plan : Plan) where
  ends_trap : (s : Proc) (n : Need) (w : Wanted) → wanted_of program plan s n ≡ Some w → IsEnd w → IsTrap w
  ends_trap s (Read c) w e = absurd (no_some w e)
  ends_trap s (Write c v) w e = absurd (no_some w e)
  ends_trap s Plain w e = absurd (no_some w e)
  ends_trap s (Enter b u) w e = trap_by (wanted.Nested b) w e (λ z. z)
  ends_trap s (Leave b u) w e = trap_by _ w e (λ z. z)
  ends_trap s (Invoke None u) w e = absurd (no_some w e)
  ends_trap s (Invoke (Some b) u) w e = trap_by (wanted.Nested b) w e (λ z. z)
  ends_trap s (Back None u) w e = absurd (no_some w e)
  ends_trap s (Back (Some b) u) w e = trap_by _ w e (λ z. z)
  ends_trap s (P o u) w e = trap_by _ w e (λ z. z)
  ends_trap s (V o u) w e = trap_by _ w e (λ z. z)
  ends_trap s (Send c v u) w e = trap_by _ w e (λ z. z)
  ends_trap s (Offer c v) w e = trap_by _ w e (λ z. z)
  ends_trap s (Done c u) w e = trap_by _ w e (λ z. z)
  ends_trap s (Recv c u) w e = trap_by _ w e (λ z. z)
  ends_trap s (End b) w e = trap_by _ w e (λ z. z)
  ends_trap s (Trap t) w e = trap_by (wanted.End (status.Trap t)) w e (λ z. z)
  ends_trap s Budget w e = absurd (no_some w e)
  ends_trap s Stopped w e = absurd (no_some w e)

  -- ---- turns

  -- a failure's two sides differ, but for a trap
  abbrev IsClear : Result BlockTrace EmulError → Type 0
  IsClear (Ok x) = ⊤
  IsClear (Err (Diverged n w f)) = as_found w ≡ Some f → IsTrap w
  IsClear (Err Memory) = ⊤

  abbrev IsClearTurn : Turn → Type 0
  IsClearTurn (more r) = ⊤
  IsClearTurn (done x) = IsClear x.answer

  either_clear : (ok : Bool) (t u : Turn) → IsClearTurn t → (ok ≡ false → IsClearTurn u) → IsClearTurn (if ok then t else u)
  either_clear true t u x y = x
  either_clear false t u x y = y refl

  take_clear : (u : ℕ) (q : Replaying) → IsClearTurn (take_unit plan (Some u) q)
  take_clear u q =
      either_clear (fits (wanted.Unit u) (found_of (next_piece q).1)) (more (unit_taken plan u (next_piece q).1 q)) (fail q (wanted.Unit u)) tt
      (λ e is. unfit (wanted.Unit u) (found_of (next_piece q).1) e is)

  take_if_clear : (u : Option ℕ) (q : Replaying) → IsClearTurn (take_unit plan u q)
  take_if_clear None q = tt
  take_if_clear (Some u) q = take_clear u q

  with_clear : (n : Need) (piece : Piece) (r : Replaying) → IsClearTurn (step_with program plan n piece r)
  with_clear n (sync kind object number value) r =
      take_if_clear (unit_started n) (past_piece (stepped program plan (received n value) (with_event program plan (received n value) (Some number) r)))
  with_clear n (nested k b values) r =
      take_clear (unit_past plan r.proc.todo n)
      (past_piece (counted (record (with_item (item.Nested k b values true) (with_call program plan n r)) { proc = skipped program plan values r.proc })))
  with_clear n (unfinished k b) r = tt
  with_clear n (unit u values) r = tt
  with_clear n (postlog values) r = tt
  with_clear n (finish how rest) r = tt

  fewer_clear : (r : Replaying) → IsClearTurn (fail r wanted.Fewer)
  fewer_clear r is = absurd (no_some (found_of (next_piece r).1) is)

  -- an event, and nothing else
  plain_clear : (n : Need) (r : Replaying) → IsClearTurn (take_unit plan (unit_started n) (stepped program plan Go (with_event program plan Go None r)))
  plain_clear n r = take_if_clear (unit_started n) (stepped program plan Go (with_event program plan Go None r))

  without_clear : (n : Need) (r : Replaying) → IsClearTurn (step_without program plan n r)
  without_clear (Read c) r = tt
  without_clear (Write c v) r =
      take_if_clear None (stepped program plan Go (with_write (Write c v) (with_event program plan Go None r)))
  without_clear Stopped r = fewer_clear r
  without_clear n r = plain_clear n r

  wanted_clear : (n : Need) (w : Option Wanted) (r : Replaying) → wanted_of program plan r.proc n ≡ w → IsClearTurn (turn_by_wanted program plan n w r)
  wanted_clear n None r e = without_clear n r
  wanted_clear n (Some w) r e =
      either_clear (fits w (found_of (next_piece r).1)) (step_with program plan n (next_piece r).1 r) (fail r w) (with_clear n (next_piece r).1 r)
      (λ e' is. ends_trap r.proc n w e (unfit w (found_of (next_piece r).1) e' is))

  -- the piece is the end of the process
  on_by : (n : Need) (o : Option Wanted) (r : Replaying) (how : Status) → wanted_of program plan r.proc n ≡ o → found_of (next_piece r).1 ≡ found.End how → IsClearTurn (fail r (unwrap_or o wanted.Fewer))
  on_by n None r how e here = fewer_clear r
  on_by n (Some w) r how e here =
      λ is. ends_trap r.proc n w e (end_wanted w how (is ∙ ap (λ (g : Found). Some g) here))

  on_clear : (n : Need) (r : Replaying) (how : Status) → found_of (next_piece r).1 ≡ found.End how → IsClearTurn (goes_on program plan n r)
  on_clear n r how here = on_by n (wanted_of program plan r.proc n) r how refl here

  by_end_clear : (how : Option Status) (n : Need) (r : Replaying) → ((s : Status) → how ≡ Some s → found_of (next_piece r).1 ≡ found.End s) → IsClearTurn (turn_by_end program plan how n r)
  by_end_clear (Some status.Budget) n r here = tt
  by_end_clear how Budget r here = fewer_clear r
  by_end_clear None n r here = wanted_clear n (wanted_of program plan r.proc n) r refl
  by_end_clear (Some status.Blocked) n r here =
      either_clear (is_some (kind_of_sync n)) (finished r) (goes_on program plan n r) tt (λ e. on_clear n r status.Blocked (here status.Blocked refl))
  by_end_clear (Some (status.Trap t)) (Trap t') r here =
      either_clear (same_trap t t') (finished (counted (with_event program plan Go None r))) (fail r (wanted.End (status.Trap t'))) tt (λ e is. tt)
  by_end_clear (Some s) n r here = on_clear n r s (here s refl)

  end_if : (how s : Status) (ok : Bool) → (if ok then Some how else None) ≡ Some s → found.End how ≡ found.End s
  end_if how s true e = ap (λ (o : Option Status). found.End (unwrap_or o how)) e
  end_if how s false e = absurd (no_some s e)

  end_found : (since : ℕ) (piece : Piece) (s : Status) → end_here since piece ≡ Some s → found_of piece ≡ found.End s
  end_found since (finish how rest) s e = end_if how s (nat_eq since rest) e
  end_found since (unit u values) s e = absurd (no_some s e)
  end_found since (sync kind object number value) s e = absurd (no_some s e)
  end_found since (nested k b values) s e = absurd (no_some s e)
  end_found since (unfinished k b) s e = absurd (no_some s e)
  end_found since (postlog values) s e = absurd (no_some s e)

  turn_clear : (r : Replaying) → IsClearTurn (turn program plan r)
  turn_clear r = by_end_clear (end_here r.since (next_piece r).1) (need_of program plan r.proc) r (end_found r.since (next_piece r).1)

  -- ---- all turns

  go_clear : (rest : Replaying → Replayed) → ((next : Replaying) → IsClear (rest next).answer) → (t : Turn) → IsClearTurn t → IsClear (go_on t rest).answer
  go_clear rest h (more next) x = h next
  go_clear rest h (done y) x = x

  from_clear : (turns : ℕ) (r : Replaying) → IsClear (replay_from program plan turns r).answer
  from_clear zero r = fewer_clear r
  from_clear (suc turns) r = go_clear (replay_from program plan turns) (from_clear turns) (turn program plan r) (turn_clear r)

  replay_clear : (l : IntervalLog) (budget : ℕ) → IsClear (replay program plan l budget).answer
  replay_clear l budget =
      go_clear (replay_from program plan (budget + 1)) (from_clear (budget + 1)) (take_unit plan (Some (block_unit plan (block_kind plan l.block))) (begun_replay program plan l budget))
      (take_clear (block_unit plan (block_kind plan l.block)) (begun_replay program plan l budget))

  replay_differs : (l : IntervalLog) (budget n : ℕ) (w : Wanted) (f : Found) → (replay program plan l budget).answer ≡ Err (Diverged n w f) → as_found w ≡ Some f → IsTrap w
  replay_differs l budget n w f e = subst IsClear e (replay_clear l budget)

pub failures_differ : FailuresDiffer
failures_differ = replay_differs
