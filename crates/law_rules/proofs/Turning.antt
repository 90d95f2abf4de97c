-- Turns of a replay, and replays, by their rules.
use Rattle.std.proofs.Common.{◌≡◌, ◌≢◌, ℕ, Bool, true, false, Option, Some, None, is_some, unwrap_or, refl, ap, sym, ◌∙◌, subst, if◌then◌else◌}
use Rattle.ppd_ast.specs.declared.plan.Plan.{Plan}
use Rattle.ppd_ast.specs.declared.program.Program.{Program}
use Rattle.ppd_ast.specs.declared.status.Status.{Status}
use Rattle.ppd_ast.specs.declared.status.Status.TheVariants as status
use Rattle.ppd_ast.specs.declared.status.SyncKind.{SyncKind}
use Rattle.ppd_ast.specs.declared.status.Trap.{Trap as TrapOf}
use Rattle.ppd_ast.specs.declared.status.Trap.TheVariants as trap
use Rattle.ppd_model.specs.Pieces.{Piece, unit, sync, nested, unfinished, postlog, finish}
use Rattle.ppd_sem.specs.declared.proc.Answer.TheVariants.{Go}
use Rattle.ppd_sem.specs.declared.proc.Need.{Need}
use Rattle.ppd_sem.specs.declared.proc.Need.TheVariants.{Read, Write, Plain, Enter, Leave, Invoke, Back, P, V, Send, Offer, Done, Recv, End, Trap, Budget, Stopped}
use Rattle.ppd_sem.specs.Blocks.{block_kind, block_unit, unit_past}
use Rattle.ppd_sem.specs.Described.{trap_of}
use Rattle.ppd_sem.specs.Process.{need_of}
use Rattle.ppd_model.specs.Story.{unit_started}
use Rattle.ppd_model.specs.Synchronizations.{kind_of_sync}
use Rattle.ppd_model.specs.declared.wanted.Found.TheVariants as found
use Rattle.ppd_model.specs.declared.wanted.Wanted.{Wanted}
use Rattle.ppd_model.specs.declared.wanted.Wanted.TheVariants as wanted
use Rattle.ppd_model.specs.Ending.{IsEndedBy, now, later, IsOverBy}
use Rattle.ppd_model.specs.Fits.{found_of, wanted_of, same_trap, fits}
use Rattle.ppd_model.specs.Replay.{Replaying, Replayed, Turn, more, done, begun_replay, counted, end_here, fail, finished, goes_on as another_step, is_budget, next_piece, replay, step_with, step_without, stepped, take_unit, turn_by_end, turn_by_wanted, with_event, with_write}
use Rattle.ppd_model.proofs.Ending.{replays_end}
use Rattle.law_rules.specs.Replays.{ComesTo, EndsHere, EndsLater, Fits, IsNotAt, Needs, Replays, ReplaysFollowTheRules, Turns, TurnsFollowTheRules, ends, ends_too_early, enters, goes_on, is_over, leaves, needs_none, other_piece, reads, skips, stopped, synchronizes, too_dear, traps, traps_otherwise, waits}
use Rattle.law_rules.proofs.Starting.{ends_here, ends_later, end_of, none_here, start_by_rule, start_is, unit_by_rule}

-- ---- needs

is_the_budget : (need : Need) → is_budget need ≡ true → need ≡ Budget
is_the_budget Budget e = refl
is_the_budget (Read c) e = cc
is_the_budget (Write c v) e = cc
is_the_budget Plain e = cc
is_the_budget (Enter b u) e = cc
is_the_budget (Leave b u) e = cc
is_the_budget (Invoke b u) e = cc
is_the_budget (Back b u) e = cc
is_the_budget (P o u) e = cc
is_the_budget (V o u) e = cc
is_the_budget (Send o v u) e = cc
is_the_budget (Offer o v) e = cc
is_the_budget (Done o u) e = cc
is_the_budget (Recv o u) e = cc
is_the_budget (End b) e = cc
is_the_budget (Trap t) e = cc
is_the_budget Stopped e = cc

no_budget : (need : Need) → need ≢ Budget → is_budget need ≡ false
no_budget need other = by (is_budget need) refl
  where
    by : (b : Bool) → is_budget need ≡ b → b ≡ false
    by true e = absurd (other (is_the_budget need e))
    by false e = refl

the_trap : (need : Need) (t : TrapOf) → trap_of need ≡ Some t → need ≡ Trap t
the_trap (Trap s) t e = ap (λ o. Trap (unwrap_or o s)) e
the_trap Budget t e = cc
the_trap (Read c) t e = cc
the_trap (Write c v) t e = cc
the_trap Plain t e = cc
the_trap (Enter b u) t e = cc
the_trap (Leave b u) t e = cc
the_trap (Invoke b u) t e = cc
the_trap (Back b u) t e = cc
the_trap (P o u) t e = cc
the_trap (V o u) t e = cc
the_trap (Send o v u) t e = cc
the_trap (Offer o v) t e = cc
the_trap (Done o u) t e = cc
the_trap (Recv o u) t e = cc
the_trap (End b) t e = cc
the_trap Stopped t e = cc

same_traps : (a b : TrapOf) → same_trap a b ≡ true → a ≡ b
same_traps trap.Overflow trap.Overflow e = refl
same_traps trap.Overflow trap.Zero e = cc
same_traps trap.Overflow trap.Index e = cc
same_traps trap.Overflow trap.Assert e = cc
same_traps trap.Overflow trap.Depth e = cc
same_traps trap.Zero trap.Overflow e = cc
same_traps trap.Zero trap.Zero e = refl
same_traps trap.Zero trap.Index e = cc
same_traps trap.Zero trap.Assert e = cc
same_traps trap.Zero trap.Depth e = cc
same_traps trap.Index trap.Overflow e = cc
same_traps trap.Index trap.Zero e = cc
same_traps trap.Index trap.Index e = refl
same_traps trap.Index trap.Assert e = cc
same_traps trap.Index trap.Depth e = cc
same_traps trap.Assert trap.Overflow e = cc
same_traps trap.Assert trap.Zero e = cc
same_traps trap.Assert trap.Index e = cc
same_traps trap.Assert trap.Assert e = refl
same_traps trap.Assert trap.Depth e = cc
same_traps trap.Depth trap.Overflow e = cc
same_traps trap.Depth trap.Zero e = cc
same_traps trap.Depth trap.Index e = cc
same_traps trap.Depth trap.Assert e = cc
same_traps trap.Depth trap.Depth e = refl

self_trap : (a : TrapOf) → same_trap a a ≡ true
self_trap trap.Overflow = refl
self_trap trap.Zero = refl
self_trap trap.Index = refl
self_trap trap.Assert = refl
self_trap trap.Depth = refl

other_traps : (a b : TrapOf) → a ≢ b → same_trap a b ≡ false
other_traps a b other = by (same_trap a b) refl
  where
    by : (x : Bool) → same_trap a b ≡ x → x ≡ false
    by true e = absurd (other (same_traps a b e))
    by false e = refl

-- an end fits nothing that is wanted
no_end : (w : Wanted) (s : Status) → fits w (found.End s) ≡ true → ⊥
no_end (wanted.Unit u) s e = cc
no_end (wanted.Sync k o v) s e = cc
no_end (wanted.Nested b) s e = cc
no_end (wanted.Postlog values) s e = cc
no_end (wanted.End how) s e = cc
no_end wanted.Fewer s e = cc

module _ (program : Program) (plan : Plan) (r : Replaying) where
  -- other_one step wants a unit
  unfit_unit : (need : Need) (u : ℕ) (w : Wanted) → wanted_of program plan r.proc need ≡ Some w → fits w (found.Unit u) ≡ true → ⊥
  unfit_unit need u w is e = by need is
    where
      other : (x : Wanted) → Some x ≡ Some w → fits x (found.Unit u) ≡ false → ⊥
      other x same none =
          let one : x ≡ w = ap (λ o. unwrap_or o x) same in
          let clash : true ≡ false = sym e ∙ ap (λ y. fits y (found.Unit u)) (sym one) ∙ none in
          cc

      by : (n : Need) → wanted_of program plan r.proc n ≡ Some w → ⊥
      by Budget s = cc
      by (Read c) s = cc
      by (Write c v) s = cc
      by Plain s = cc
      by (Enter b v) s = other (wanted.Nested b) s refl
      by (Leave b v) s = other _ s refl
      by (Invoke None v) s = cc
      by (Invoke (Some b) v) s = other (wanted.Nested b) s refl
      by (Back None v) s = cc
      by (Back (Some b) v) s = other _ s refl
      by (P o v) s = other _ s refl
      by (V o v) s = other _ s refl
      by (Send o x v) s = other _ s refl
      by (Offer o x) s = other _ s refl
      by (Done o v) s = other _ s refl
      by (Recv o v) s = other _ s refl
      by (End b) s = other _ s refl
      by (Trap t) s = other _ s refl
      by Stopped s = cc

  -- what fits is there
  wants_no_budget : (need : Need) (w : Wanted) → wanted_of program plan r.proc need ≡ Some w → need ≢ Budget
  wants_no_budget need w is same =
      let clash : None ≡ Some w = ap (wanted_of program plan r.proc) (sym same) ∙ is in cc

  -- ---- what a turn is has its rule

  module _ (need : Need) where
    abbrev Rule : Turn → Type 0
    Rule = Turns program plan r need

    -- a step that needs other_one piece
    without : EndsLater r → (n : Need) → need ≡ n → n ≢ Budget → wanted_of program plan r.proc n ≡ None → Turns program plan r n (step_without program plan n r)
    without after (Read c) is paid none = reads c after refl
    without after Stopped is paid none = is_over after refl
    without after Budget is paid none = absurd (paid refl)
    without after (Write c v) is paid none = needs_none _ after (λ d e. cc) (λ e. cc) paid none (start_by_rule plan _ _)
    without after Plain is paid none = needs_none _ after (λ d e. cc) (λ e. cc) paid none (start_by_rule plan _ _)
    without after (Enter b u) is paid none = needs_none _ after (λ d e. cc) (λ e. cc) paid none (start_by_rule plan _ _)
    without after (Leave b u) is paid none = needs_none _ after (λ d e. cc) (λ e. cc) paid none (start_by_rule plan _ _)
    without after (Invoke b u) is paid none = needs_none _ after (λ d e. cc) (λ e. cc) paid none (start_by_rule plan _ _)
    without after (Back b u) is paid none = needs_none _ after (λ d e. cc) (λ e. cc) paid none (start_by_rule plan _ _)
    without after (P o u) is paid none = needs_none _ after (λ d e. cc) (λ e. cc) paid none (start_by_rule plan _ _)
    without after (V o u) is paid none = needs_none _ after (λ d e. cc) (λ e. cc) paid none (start_by_rule plan _ _)
    without after (Send o v u) is paid none = needs_none _ after (λ d e. cc) (λ e. cc) paid none (start_by_rule plan _ _)
    without after (Offer o v) is paid none = needs_none _ after (λ d e. cc) (λ e. cc) paid none (start_by_rule plan _ _)
    without after (Done o u) is paid none = needs_none _ after (λ d e. cc) (λ e. cc) paid none (start_by_rule plan _ _)
    without after (Recv o u) is paid none = needs_none _ after (λ d e. cc) (λ e. cc) paid none (start_by_rule plan _ _)
    without after (End b) is paid none = needs_none _ after (λ d e. cc) (λ e. cc) paid none (start_by_rule plan _ _)
    without after (Trap t) is paid none = needs_none _ after (λ d e. cc) (λ e. cc) paid none (start_by_rule plan _ _)

    -- a step whose piece is there
    with_piece : EndsLater r → (w : Wanted) → Needs program plan r need (Some w) → (piece : Piece) → (next_piece r).1 ≡ piece → fits w (found_of piece) ≡ true
        → Rule (step_with program plan need piece r)
    with_piece after w needs (sync k o n v) is e =
        synchronizes w k o n v _ after needs (ap (λ p. fits w (found_of p)) is ∙ e) is (start_by_rule plan (unit_started need) _)
    with_piece after w needs (nested k b values) is e =
        skips w k b values _ after needs (ap (λ p. fits w (found_of p)) is ∙ e) is (unit_by_rule plan (unit_past plan r.proc.todo need) _)
    with_piece after w needs (unfinished k b) is e =
        enters w k b after needs (ap (λ p. fits w (found_of p)) is ∙ e) is
    with_piece after w needs (postlog values) is e =
        leaves w values after needs (ap (λ p. fits w (found_of p)) is ∙ e) is
    with_piece after w needs (unit u values) is e = absurd (unfit_unit need u w needs e)
    with_piece after w needs (finish s rest) is e = absurd (no_end w s e)

    -- a step that needs a piece
    by_fit : EndsLater r → (w : Wanted) → Needs program plan r need (Some w) → (b : Bool) → fits w (found_of (next_piece r).1) ≡ b
        → Rule (if b then step_with program plan need (next_piece r).1 r else fail r w)
    by_fit after w needs true e = with_piece after w needs (next_piece r).1 refl e
    by_fit after w needs false e = other_piece w after needs (λ yes. let clash : true ≡ false = sym yes ∙ e in cc)

    by_need : EndsLater r → need ≢ Budget → (o : Option Wanted) → wanted_of program plan r.proc need ≡ o → Rule (turn_by_wanted program plan need o r)
    by_need after paid None e = without after need refl paid e
    by_need after paid (Some w) e = by_fit after w e (fits w (found_of (next_piece r).1)) refl

    -- at a trap
    by_traps : (t t' : TrapOf) → EndsHere r (status.Trap t) → need ≡ Trap t' → (b : Bool) → same_trap t t' ≡ b
        → Rule (if b then finished (counted (with_event program plan Go None r)) else fail r (wanted.End (status.Trap t')))
    by_traps t t' here is true e = traps t here (is ∙ ap Trap (sym (same_traps t t' e)))
    by_traps t t' here is false e =
        traps_otherwise t t' here is (λ same. let clash : true ≡ false = sym (self_trap t) ∙ ap (same_trap t) same ∙ e in cc)

    -- at a wait
    by_wait : EndsHere r status.Blocked → need ≢ Budget → (o : Option (SyncKind × ℕ)) → kind_of_sync need ≡ o
        → Rule (if is_some o then finished r else another_step program plan need r)
    by_wait here paid None e = ends_too_early status.Blocked here paid e
    by_wait here paid (Some k) e = waits here (λ none. let clash : None ≡ Some k = sym none ∙ e in cc)

    -- by how the process ended, if it ended here
    by_end : (how : Option Status) (n : Need) → need ≡ n → end_here r.since (next_piece r).1 ≡ how → Rule (turn_by_end program plan how n r)
    by_end (Some status.Budget) n is e = stopped (ends_here r status.Budget e)
    by_end how Budget is e = too_dear (λ here. let clash : how ≡ Some status.Budget = sym e ∙ end_of r status.Budget here in cc) is
    by_end None n is e =
        subst (λ m. Rule (turn_by_wanted program plan m (wanted_of program plan r.proc m) r)) is
        (by_need (ends_later r e) (λ same. let clash : n ≡ Budget = sym is ∙ same in cc) (wanted_of program plan r.proc need) refl)
    by_end (Some status.Blocked) n is e =
        subst (λ m. Rule (if is_some (kind_of_sync m) then finished r else another_step program plan m r)) is
        (by_wait (ends_here r status.Blocked e) (λ same. let clash : n ≡ Budget = sym is ∙ same in cc) (kind_of_sync need) refl)
    by_end (Some (status.Trap t)) (Trap t') is e = by_traps t t' (ends_here r (status.Trap t) e) is (same_trap t t') refl
    by_end (Some status.Ended) n is e =
        subst (λ m. Rule (another_step program plan m r)) is
        (ends_too_early status.Ended (ends_here r status.Ended e) (λ same. let clash : n ≡ Budget = sym is ∙ same in cc) tt)
    by_end (Some (status.Trap t)) n is e =
        subst (λ m. Rule (another_step program plan m r)) is
        (ends_too_early (status.Trap t) (ends_here r (status.Trap t) e) (λ same. let clash : n ≡ Budget = sym is ∙ same in cc) (ap trap_of is))

    by_rule : Rule (turn_by_end program plan (end_here r.since (next_piece r).1) need r)
    by_rule = by_end (end_here r.since (next_piece r).1) need refl refl

    -- ---- and what a rule says is what a turn is

    abbrev turned : Turn
    turned = turn_by_end program plan (end_here r.since (next_piece r).1) need r

    -- where it ends after
    at_later : EndsLater r → need ≢ Budget → turned ≡ turn_by_wanted program plan need (wanted_of program plan r.proc need) r
    at_later after paid =
        ap (λ how. turn_by_end program plan how need r) (none_here r after)
        ∙ going need paid
      where
        going : (n : Need) → n ≢ Budget → turn_by_end program plan None n r ≡ turn_by_wanted program plan n (wanted_of program plan r.proc n) r
        going Budget paid = absurd (paid refl)
        going n paid = refl

    -- where its piece is there
    at_piece : (w : Wanted) (piece : Piece) → EndsLater r → Needs program plan r need (Some w) → Fits program plan r w → (next_piece r).1 ≡ piece
        → turned ≡ step_with program plan need piece r
    at_piece w piece after needs fit is =
        at_later after (wants_no_budget need w needs)
        ∙ ap (λ o. turn_by_wanted program plan need o r) needs
        ∙ ap (λ b. if b then step_with program plan need (next_piece r).1 r else fail r w) fit
        ∙ ap (λ p. step_with program plan need p r) is

    -- where it is other_one read and not over
    at_none : (n : Need) → ((c : ℕ) → n ≢ Read c) → n ≢ Stopped
        → step_without program plan n r
        ≡ take_unit plan (unit_started n) (stepped program plan Go (with_write n (with_event program plan Go None r)))
    at_none (Read c) read over = absurd (read c refl)
    at_none Stopped read over = absurd (over refl)
    at_none (Write c v) read over = refl
    at_none Plain read over = refl
    at_none (Enter b u) read over = refl
    at_none (Leave b u) read over = refl
    at_none (Invoke b u) read over = refl
    at_none (Back b u) read over = refl
    at_none (P o u) read over = refl
    at_none (V o u) read over = refl
    at_none (Send o v u) read over = refl
    at_none (Offer o v) read over = refl
    at_none (Done o u) read over = refl
    at_none (Recv o u) read over = refl
    at_none (End b) read over = refl
    at_none (Trap t) read over = refl
    at_none Budget read over = refl

    -- at its end
    at_end : (s : Status) → EndsHere r s → turned ≡ turn_by_end program plan (Some s) need r
    at_end s here = ap (λ how. turn_by_end program plan how need r) (end_of r s here)

    too_dear_by : (how : Option Status) → how ≢ Some status.Budget → turn_by_end program plan how Budget r ≡ fail r wanted.Fewer
    too_dear_by (Some status.Budget) other = absurd (other refl)
    too_dear_by how other = refl

    blocked : (n : Need) → n ≢ Budget
        → turn_by_end program plan (Some status.Blocked) n r ≡ (if is_some (kind_of_sync n) then finished r else another_step program plan n r)
    blocked Budget paid = absurd (paid refl)
    blocked n paid = refl

    -- where the next step is not at that end
    past_end : (s : Status) (n : Need) → IsNotAt s n → n ≢ Budget → turn_by_end program plan (Some s) n r ≡ another_step program plan n r
    past_end status.Budget n other_one paid = absurd other_one
    past_end s Budget other_one paid = absurd (paid refl)
    past_end status.Blocked n other_one paid =
        blocked n paid ∙ ap (λ o. if is_some o then finished r else another_step program plan n r) other_one
    past_end (status.Trap t) (Trap t') other_one paid = cc
    past_end s n other_one paid = refl

    some_if : (o : Option (SyncKind × ℕ)) → o ≢ None → is_some o ≡ true
    some_if None other = absurd (other refl)
    some_if (Some k) other = refl

    wait_is_paid : kind_of_sync need ≢ None → need ≢ Budget
    wait_is_paid some same = some (ap kind_of_sync same)

    not_at : (s : Status) → IsNotAt s need → EndsHere r s → need ≢ Budget → turned ≡ another_step program plan need r
    not_at s other_one here paid = at_end s here ∙ past_end s need other_one paid

    unfit_is : (w : Wanted) → (Fits program plan r w → ⊥) → fits w (found_of (next_piece r).1) ≡ false
    unfit_is w other_one = by (fits w (found_of (next_piece r).1)) refl
      where
        by : (b : Bool) → fits w (found_of (next_piece r).1) ≡ b → b ≡ false
        by true e = absurd (other_one e)
        by false e = refl

    turn_is : (t : Turn) → Rule t → turned ≡ t
    turn_is t (stopped here) = ap (λ how. turn_by_end program plan how need r) (end_of r status.Budget here)
    turn_is t (too_dear other is) =
        ap (λ n. turn_by_end program plan (end_here r.since (next_piece r).1) n r) is
        ∙ too_dear_by (end_here r.since (next_piece r).1) (λ same. other (ends_here r status.Budget same))
    turn_is t (waits here some) =
        at_end status.Blocked here ∙ blocked need (wait_is_paid some)
        ∙ ap (λ b. if b then finished r else another_step program plan need r) (some_if (kind_of_sync need) some)
    turn_is t (traps x here is) =
        at_end (status.Trap x) here
        ∙ ap (λ n. turn_by_end program plan (Some (status.Trap x)) n r) is
        ∙ ap (λ b. if b then finished (counted (with_event program plan Go None r)) else fail r (wanted.End (status.Trap x))) (self_trap x)
    turn_is t (traps_otherwise x y here is other) =
        at_end (status.Trap x) here
        ∙ ap (λ n. turn_by_end program plan (Some (status.Trap x)) n r) is
        ∙ ap (λ b. if b then finished (counted (with_event program plan Go None r)) else fail r (wanted.End (status.Trap y))) (other_traps x y other)
    turn_is t (ends_too_early s here paid other_one) = not_at s other_one here paid
    turn_is t (reads c after is) =
        at_later after (λ same. let clash : Read c ≡ Budget = sym is ∙ same in cc)
        ∙ ap (λ n. turn_by_wanted program plan n (wanted_of program plan r.proc n) r) is
    turn_is t (is_over after is) =
        at_later after (λ same. let clash : Stopped ≡ Budget = sym is ∙ same in cc)
        ∙ ap (λ n. turn_by_wanted program plan n (wanted_of program plan r.proc n) r) is
    turn_is t (needs_none x after read over paid none starts) =
        at_later after paid
        ∙ ap (λ o. turn_by_wanted program plan need o r) none
        ∙ at_none need read over
        ∙ start_is plan (stepped program plan Go (with_write need (with_event program plan Go None r))) (unit_started need) t starts
    turn_is t (other_piece w after needs other_one) =
        at_later after (wants_no_budget need w needs)
        ∙ ap (λ o. turn_by_wanted program plan need o r) needs
        ∙ ap (λ b. if b then step_with program plan need (next_piece r).1 r else fail r w) (unfit_is w other_one)
    turn_is t (synchronizes w k o n v x after needs fit is starts) =
        at_piece w (sync k o n v) after needs fit is ∙ start_is plan _ (unit_started need) t starts
    turn_is t (skips w k b values x after needs fit is starts) =
        at_piece w (nested k b values) after needs fit is ∙ start_is plan _ (Some (unit_past plan r.proc.todo need)) t starts
    turn_is t (enters w k b after needs fit is) = at_piece w (unfinished k b) after needs fit is
    turn_is t (leaves w values after needs fit is) = at_piece w (postlog values) after needs fit is

pub turns_follow : TurnsFollowTheRules
turns_follow program plan r t = (
  λ rule. turn_is program plan r (need_of program plan r.proc) t rule,
  λ is. subst (Turns program plan r (need_of program plan r.proc)) is (by_rule program plan r (need_of program plan r.proc)),
)

-- ---- replays

module _ (program : Program) (plan : Plan) where
  by_turns : {r : Replaying} {x : Replayed} → IsEndedBy program plan r x → Replays program plan r x
  by_turns {r = r} (now e) = ends ((turns_follow program plan r _).1 e)
  by_turns {r = r} (later e rest) = goes_on ((turns_follow program plan r _).1 e) (by_turns rest)

  turns_end : {r : Replaying} {x : Replayed} → Replays program plan r x → IsEndedBy program plan r x
  turns_end {r = r} (ends rule) = now ((turns_follow program plan r _).0 rule)
  turns_end {r = r} (goes_on rule rest) = later ((turns_follow program plan r _).0 rule) (turns_end rest)

  -- turns come to one end
  of_done : (x y : Replayed) → done x ≡ done y → x ≡ y
  of_done x y e = cc

  of_more : (x y : Replaying) → more x ≡ more y → x ≡ y
  of_more x y e = cc

  one_end : {r : Replaying} {x y : Replayed} → IsEndedBy program plan r x → IsEndedBy program plan r y → x ≡ y
  one_end {x = x} {y = y} (now a) (now b) = of_done x y (sym a ∙ b)
  one_end {x = x} (now a) (later {next = next} b rest) = let clash : done x ≡ more next = sym a ∙ b in cc
  one_end {y = y} (later {next = next} a rest) (now b) = let clash : more next ≡ done y = sym a ∙ b in cc
  one_end {y = y} (later {next = m} a rest) (later {next = n} b other) =
      one_end rest (subst (λ q. IsEndedBy program plan q y) (sym (of_more m n (sym a ∙ b))) other)

  -- what a turn comes to by the rules and by turns
  comes : (t : Turn) (x : Replayed) → IsOverBy program plan t x → ComesTo program plan t x
  comes (done y) x e = e
  comes (more r) x ended = by_turns ended

  comes_once : (t : Turn) (x y : Replayed) → IsOverBy program plan t x → ComesTo program plan t y → x ≡ y
  comes_once (done z) x y a b = sym a ∙ b
  comes_once (more r) x y a b = one_end a (turns_end b)

pub replays_follow : ReplaysFollowTheRules
replays_follow program plan l budget x = (
  λ is. comes_once program plan is.begun _ x
      (subst (λ t. IsOverBy program plan t (replay program plan l budget)) (start_is plan (begun_replay program plan l budget) (Some (block_unit plan (block_kind plan l.block))) is.begun is.first)
      (replays_end program plan l budget))
      is.comes,
  λ e. record {
    begun = take_unit plan (Some (block_unit plan (block_kind plan l.block))) (begun_replay program plan l budget);
    first = unit_by_rule plan (block_unit plan (block_kind plan l.block)) (begun_replay program plan l budget);
    comes = subst (ComesTo program plan (take_unit plan (Some (block_unit plan (block_kind plan l.block))) (begun_replay program plan l budget))) e
        (comes program plan _ _ (replays_end program plan l budget));
  },
)
