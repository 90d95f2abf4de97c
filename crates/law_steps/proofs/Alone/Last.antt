-- The last turn of a replay.
use Rattle.std.proofs.Common.{◌≡◌, ℕ, ◌+◌, ◌<◌, ℤ, List, [], ◌∷◌, map, Option, Some, None, Bool, true, false, Ok, refl, ap, ap₂, sym, ◌∙◌, arith, append-nil, true≢false}
use Rattle.std.proofs.lemmas.Bool.{cond-true}
use Rattle.std.proofs.lemmas.Cmp.{int_eq_equiv, lists_equiv}
use Rattle.std.specs.Prelude.{is_some, if◌then◌else◌}
use Rattle.ppd_ast.specs.declared.plan.Plan.{Plan}
use Rattle.ppd_ast.specs.declared.program.Program.{Program}
use Rattle.ppd_ast.specs.declared.status.Status.TheVariants as status
use Rattle.ppd_ast.specs.declared.status.Trap.{Trap as TrapOf}
use Rattle.ppd_ast.specs.declared.status.Trap.TheVariants as trap_kind
use Rattle.ppd_model.specs.Pieces.{postlog, finish}
use Rattle.ppd_sem.specs.declared.proc.Answer.TheVariants.{Go}
use Rattle.ppd_sem.specs.declared.proc.Need.{Need}
use Rattle.ppd_sem.specs.declared.proc.Need.TheVariants.{P, V, Send, Offer, Done, Recv, Trap, Budget}
use Rattle.ppd_sem.specs.declared.proc.Proc.{Proc}
use Rattle.ppd_sem.specs.declared.proc.Todo.{Todo}
use Rattle.ppd_sem.specs.Described.{described, evaluates, trap_of}
use Rattle.ppd_sem.specs.Process.{need_of}
use Rattle.ppd_model.specs.declared.flow.Item.{Item}
use Rattle.ppd_model.specs.declared.flow.Item.TheVariants as item
use Rattle.ppd_model.specs.declared.trace.EventId.{EventId}
use Rattle.ppd_model.specs.FullTrace.{event_of}
use Rattle.ppd_model.specs.Marks.{Mark, closed}
use Rattle.ppd_model.specs.Synchronizations.{kind_of_sync}
use Rattle.ppd_model.specs.Fits.{fits, found_of, same_trap, wanted_of}
use Rattle.ppd_model.specs.declared.wanted.Wanted.{Wanted}
use Rattle.ppd_model.specs.declared.wanted.Wanted.TheVariants as wanted
use Rattle.ppd_model.specs.Replay.{Replaying, done, counted, fail, finished, goes_on, is_budget, turn_by_end, next_piece, replay_from, step_with, with_event}
use Rattle.law_steps.proofs.Vocabulary.Relation.{HasEnds, IsBlock}
use Rattle.law_steps.specs.Coming.Pieces.{at_rest}
use Rattle.law_steps.specs.OpenBlocks.Run.{IsRun}
use Rattle.law_steps.proofs.Vocabulary.Alone.{IsKept}
use Rattle.law_steps.proofs.Beside.Needs.{is_enter}
use Rattle.law_steps.proofs.Beside.Turned.{piece_turn}
use Rattle.law_steps.proofs.Alone.Events.{described_same}
use Rattle.law_steps.proofs.Alone.Goals.{IsAlong}
use Rattle.law_steps.proofs.Alone.Moved.{enough, last_event, needs}
use Rattle.law_steps.proofs.Alone.Turns.{end_at, ends_so, given, is_stopped, late_at, next_at}

-- a synchronization closes no block and enters none, and it is no stop
record IsSyncNeed (program : Program) (plan : Plan) (s : Proc) (n : Need) : Type 0 where
  unclosed : closed program plan s n ≡ None
  payable : is_budget n ≡ false
  enters_not : is_enter n ≡ false
  goes : is_stopped n ≡ false

-- a turn of a process that was blocked here, and that can pay for its step
blocked_turn : (program : Program) (plan : Plan) (r : Replaying) (n : Need) → is_budget n ≡ false
    → turn_by_end program plan (Some status.Blocked) n r ≡ (if is_some (kind_of_sync n) then finished r else goes_on program plan n r)
blocked_turn program plan r Budget payable = absurd (true≢false payable)
blocked_turn program plan r n payable = refl

sync_need : (program : Program) (plan : Plan) (s : Proc) (n : Need) → is_some (kind_of_sync n) ≡ true
    → IsSyncNeed program plan s n
sync_need program plan s (P o u) e = record { unclosed = refl; payable = refl; enters_not = refl; goes = refl }
sync_need program plan s (V o u) e = record { unclosed = refl; payable = refl; enters_not = refl; goes = refl }
sync_need program plan s (Send o v u) e = record { unclosed = refl; payable = refl; enters_not = refl; goes = refl }
sync_need program plan s (Offer o v) e = record { unclosed = refl; payable = refl; enters_not = refl; goes = refl }
sync_need program plan s (Done o u) e = record { unclosed = refl; payable = refl; enters_not = refl; goes = refl }
sync_need program plan s (Recv o u) e = record { unclosed = refl; payable = refl; enters_not = refl; goes = refl }
sync_need program plan s n e = absurd (true≢false (sym e))

module _ (program : Program) (plan : Plan) (used inside : ℕ → Type 0) (calls : Type 0) (closer : Todo) (home : ℕ)
    (depth : ℕ) (ends : HasEnds program) (block : IsBlock program used inside calls) (outside : List Todo)
    (Kept : Proc → Proc → Type 0) (kept : IsKept program plan used inside calls closer home depth outside Kept) where
  abbrev Along : Proc → Replaying → Type 0
  Along s r = IsAlong program plan used inside calls closer home depth outside Kept s r

  -- the process waits for ever
  pub waits : (s : Proc) (r : Replaying) (next fuel : ℕ) → Along s r → IsRun program plan s []
      → map (λ q. q.1) r.pieces ≡ finish status.Blocked r.since ∷ [] → r.proc.budget < r.proc.spent + fuel
      → replay_from program plan fuel r ≡ given r (at_rest None r.since)
  waits s r next fuel al run pieces enough_fuel =
      let n : Need = need_of program plan s in
      let blocked : is_some (kind_of_sync n) ≡ true = run al.running in
      let c : IsSyncNeed program plan s n = sync_need program plan s n blocked in
      let f = enough program plan used inside calls closer home depth ends block outside Kept kept s r.proc fuel al.beside al.paid enough_fuel in
      let h = needs program plan used inside calls closer home depth ends block outside Kept kept s r.proc n al.beside al.kept_so al.running refl c.unclosed c.payable c.goes c.enters_not in
      ends_so program plan r fuel f.0 0 (finish status.Blocked r.since) [] f.1
      (ap₂ (λ o x. turn_by_end program plan o x r) (end_at program plan r status.Blocked [] pieces) h.need
      ∙ blocked_turn program plan r n c.payable
      ∙ cond-true (is_some (kind_of_sync n)) (finished r) _ blocked
      ∙ ap₂ (λ k (xs : List Item). done (record { steps = k; answer = Ok (record { items = xs }) }))
      (let z : r.steps ≡ r.steps + 0 = omega arith in z) (sym (append-nil r.items)))

  -- the process traps
  trap_same : (t : TrapOf) → same_trap t t ≡ true
  trap_same trap_kind.Overflow = refl
  trap_same trap_kind.Zero = refl
  trap_same trap_kind.Index = refl
  trap_same trap_kind.Assert = refl
  trap_same trap_kind.Depth = refl

  pub traps : (t : TrapOf) (w : Option EventId) (s : Proc) (r : Replaying) (fuel : ℕ) → Along s r
      → need_of program plan s ≡ Trap t → map (λ q. q.1) r.pieces ≡ finish (status.Trap t) r.since ∷ []
      → r.proc.budget < r.proc.spent + fuel
      → replay_from program plan fuel r ≡ given r
      (record {
        pieces = finish (status.Trap t) r.since ∷ [];
        items = item.Own
            (event_of program plan s (record { need = Trap t; answer = Go; writer = w; number = None }) s.todo) ∷ [];
        steps = 1;
      })
  traps t w s r fuel al e pieces enough_fuel =
      let f = enough program plan used inside calls closer home depth ends block outside Kept kept s r.proc fuel al.beside al.paid enough_fuel in
      let h = needs program plan used inside calls closer home depth ends block outside Kept kept s r.proc
      (Trap t) al.beside al.kept_so al.running e refl refl refl refl in
      ends_so program plan r fuel f.0 1 (finish (status.Trap t) r.since) _ f.1
      (ap₂ (λ o x. turn_by_end program plan o x r) (end_at program plan r (status.Trap t) [] pieces) h.need
      ∙ cond-true (same_trap t t) (finished (counted (with_event program plan Go None r)))
      (fail r (wanted.End (status.Trap t))) (trap_same t)
      ∙ last_event program plan used inside calls closer home depth ends block outside Kept kept s r h.t h.ts
      (Trap t) w al.beside h.todo (h.event Go))

  -- the budget is spent
  pub spent : (s : Proc) (r : Replaying) (fuel : ℕ) → Along s r
      → map (λ q. q.1) r.pieces ≡ finish status.Budget r.since ∷ [] → r.proc.budget < r.proc.spent + fuel
      → replay_from program plan fuel r ≡ given r
      (record { pieces = finish status.Budget r.since ∷ []; items = []; steps = 0 })
  spent s r fuel al pieces enough_fuel =
      let f = enough program plan used inside calls closer home depth ends block outside Kept kept s r.proc fuel al.beside al.paid enough_fuel in
      ends_so program plan r fuel f.0 0 (finish status.Budget r.since) [] f.1
      (ap (λ o. turn_by_end program plan o (need_of program plan r.proc) r)
      (end_at program plan r status.Budget [] pieces)
      ∙ ap₂ (λ k (xs : List Item). done (record { steps = k; answer = Ok (record { items = xs }) }))
      (let z : r.steps ≡ r.steps + 0 = omega arith in z) (sym (append-nil r.items)))

  -- what closes evaluates its statement
  closing_evaluates : (s : Proc) (n : Need) (mark : Mark) → closed program plan s n ≡ Some mark → evaluates n ≡ true
  closing_evaluates s (Done o u) mark e = absurd (true≢false (ap is_some (sym e)))
  closing_evaluates s n mark e = refl

  is_sync : Option Wanted → Bool
  is_sync (Some (wanted.Sync k o v)) = true
  is_sync w = false

  wanted_evaluates : (r : Proc) (n : Need) (values : List ℤ)
      → wanted_of program plan r n ≡ Some (wanted.Postlog values) → evaluates n ≡ true
  unfolding is_sync
  wanted_evaluates r (Done o u) values e = absurd (true≢false (ap is_sync e))
  wanted_evaluates r n values e = refl

  -- the interval is left
  pub leaves_own : (n : Need) (w : Option EventId) (mark : Mark) (s : Proc) (r : Replaying) (fuel : ℕ) → Along s r
      → need_of program plan s ≡ n → trap_of n ≡ None → closed program plan s n ≡ Some mark
      → map (λ q. q.1) r.pieces ≡ postlog mark.values ∷ [] → r.proc.budget < r.proc.spent + fuel
      → replay_from program plan fuel r ≡ given r
      (record {
        pieces = postlog mark.values ∷ [];
        items = item.Own
            (event_of program plan s (record { need = n; answer = Go; writer = w; number = None }) s.todo) ∷ [];
        steps = 1;
      })
  leaves_own n w mark s r fuel al e trap closes pieces enough_fuel =
      let f = enough program plan used inside calls closer home depth ends block outside Kept kept s r.proc fuel al.beside al.paid enough_fuel in
      let c = kept.closes s r.proc mark al.beside al.kept_so al.running (ap (closed program plan s) e ∙ closes) in
      let h = kept.head s r.proc al.beside al.kept_so al.running in
      let first : (next_piece r).1 ≡ postlog mark.values = next_at program plan r.pieces _ _ pieces in
      let event : described program plan s h.0 Go ≡ described program plan r.proc h.0 Go =
      described_same program plan used inside calls closer home depth ends block outside s r.proc h.0 h.1 Go al.beside h.2 (kept.frame s r.proc al.beside al.kept_so) (ap trap_of e ∙ trap ∙ sym (ap trap_of c.need_is ∙ c.no_trap))
      (ap evaluates e ∙ closing_evaluates s n mark closes
      ∙ sym (ap evaluates c.need_is ∙ wanted_evaluates r.proc c.need mark.values c.wants)) in
      ends_so program plan r fuel f.0 1 (postlog mark.values) _ f.1
      (piece_turn program plan r c.need (wanted.Postlog mark.values) c.need_is
      (late_at program plan r _ pieces tt) c.payable c.wants
      (ap (λ p. fits (wanted.Postlog mark.values) (found_of p)) first ∙ (lists_equiv int_eq_equiv).refl mark.values)
      ∙ ap (λ p. step_with program plan c.need p r) first
      ∙ last_event program plan used inside calls closer home depth ends block outside Kept kept s r h.0 h.1 n w al.beside h.2 event)
