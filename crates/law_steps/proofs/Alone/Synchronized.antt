-- A synchronization of the interval's own, and an offer.
use Rattle.law_steps.proofs.Alone.Goals.{IsAlong, OwnGoal}
use Rattle.law_steps.proofs.Alone.Moved.{enough, item_is, moves}
use Rattle.law_steps.proofs.Alone.Turns.{event_at_head, fuel_on, given, is_stopped, late_at, map_drop, next_at, on_more, with_event_is}
use Rattle.law_steps.proofs.Beside.Turned.{piece_turn, unit_turn}
use Rattle.law_steps.proofs.Vocabulary.Alone.{IsInside, IsKept}
use Rattle.law_steps.proofs.Vocabulary.Relation.{HasEnds, IsBlock}
use Rattle.law_steps.specs.Coming.Pieces.{before, coming}
use Rattle.law_steps.specs.InForce.Values.{AreRead}
use Rattle.law_steps.specs.OpenBlocks.Run.{IsRun}
use Rattle.ppd_ast.specs.declared.plan.Plan.{Plan}
use Rattle.ppd_ast.specs.declared.program.Program.{Program}
use Rattle.ppd_ast.specs.declared.status.SyncKind.{SyncKind}
use Rattle.ppd_model.specs.Fits.{fits, found_of, wanted_of}
use Rattle.ppd_model.specs.Replay.{Replaying, is_budget, more, next_piece, past_piece, replay_from, step_with, stepped, take_unit, turn, with_event}
use Rattle.ppd_model.specs.Pieces.{sync, unit}
use Rattle.ppd_model.specs.FullTrace.{event_of}
use Rattle.ppd_model.specs.Story.{Moment}
use Rattle.ppd_model.specs.declared.flow.Item.{Item}
use Rattle.ppd_model.specs.declared.flow.Item.TheVariants as item
use Rattle.ppd_model.specs.declared.trace.EventId.{EventId}
use Rattle.ppd_sem.specs.Described.{trap_of}
use Rattle.ppd_sem.specs.Process.{act, need_of}
use Rattle.ppd_sem.specs.declared.proc.Answer.{Answer}
use Rattle.ppd_sem.specs.declared.proc.Need.{Need}
use Rattle.ppd_sem.specs.declared.proc.Proc.{Proc}
use Rattle.ppd_sem.specs.declared.proc.Todo.{Todo}
use Rattle.std.proofs.Common.{List, None, Option, Some, [], ap, false, map, refl, subst, suc, sym, true, ℕ, ℤ, ◌++◌, ◌+◌, ◌<◌, ◌∙◌, ◌∷◌, ◌≡◌}
use Rattle.std.specs.Option.{option_map_or}
use Rattle.std.specs.Prelude.{drop, slice_get, zip}

module _ (program : Program) (plan : Plan) (used inside : ℕ → Type 0) (calls : Type 0) (closer : Todo) (home : ℕ)
    (depth : ℕ) (ends : HasEnds program) (block : IsBlock program used inside calls) (outside : List Todo)
    (Kept : Proc → Proc → Type 0) (kept : IsKept program plan used inside calls closer home depth outside Kept) where
  abbrev Along : Proc → Replaying → Type 0
  Along s r = IsAlong program plan used inside calls closer home depth outside Kept s r

  abbrev OwnSteps : List Moment → Type 0
  OwnSteps ms = OwnGoal program plan used inside calls closer home depth outside Kept ms

  -- a synchronization, with its piece and the unit after it
  pub sync_step : (n : Need) (a : Answer) (kind : SyncKind) (o k : ℕ) (v : ℤ) (u : ℕ) (vs : List ℤ)
      (w : Option EventId) (ms : List Moment) (s : Proc) (r : Replaying) (next fuel : ℕ) → OwnSteps ms → Along s r
      → need_of program plan s ≡ n → IsInside program plan s n → is_budget n ≡ false → is_stopped n ≡ false
      → trap_of n ≡ None
      → (want : _) → wanted_of program plan r.proc n ≡ Some want → fits want (found_of (sync kind o k v)) ≡ true
      → ((q : Replaying) → step_with program plan n (sync kind o k v) q ≡ take_unit plan (Some u)
      (past_piece (stepped program plan a (with_event program plan a (Some k) q))))
      → AreRead plan (zip (option_map_or (λ u. u.cells) (slice_get plan.units u) []) vs) ms → IsRun program plan (act program plan s a) ms
      → map (λ q. q.1) r.pieces
      ≡ sync kind o k v ∷ unit u vs ∷ (coming program plan (act program plan s a) ms None next 0).pieces
      → r.proc.budget < r.proc.spent + fuel
      → replay_from program plan fuel r ≡ given r
      (before (sync kind o k v ∷ unit u vs ∷ [])
      (item.Own (event_of program plan s
      (record { need = n; answer = a; writer = w; number = Some k }) s.todo) ∷ []) 1
      (coming program plan (act program plan s a) ms None next 0))
  sync_step n a kind o k v u vs w ms s r next fuel ih al e within payable stopped trap want wants fit with reads run pieces enough_fuel =
      let h = moves program plan used inside calls closer home depth ends block outside Kept kept s r.proc a n al.beside al.kept_so al.running al.paid e within payable stopped in
      let f = enough program plan used inside calls closer home depth ends block outside Kept kept s r.proc fuel al.beside al.paid enough_fuel in
      let i : Item = event_at_head program plan r.proc h.t a (Some k) in
      let r1 : Replaying = past_piece (stepped program plan a (record r { items = r.items ++ i ∷ [] })) in
      let r' : Replaying = record (past_piece r1) { in_force = zip (option_map_or (λ u. u.cells) (slice_get plan.units u) []) vs } in
      let first : (next_piece r).1 ≡ sync kind o k v = next_at program plan r.pieces _ _ pieces in
      let rest : map (λ q. q.1)
      (drop 1 r.pieces) ≡ unit u vs ∷ (coming program plan (act program plan s a) ms None next 0).pieces =
      map_drop program plan r.pieces _ _ pieces in
      let go : turn program plan r ≡ more r' =
      piece_turn program plan r n want h.need (late_at program plan r _ pieces tt) payable wants
      (ap (λ p. fits want (found_of p)) first ∙ fit)
      ∙ ap (λ p. step_with program plan n p r) first ∙ with r
      ∙ ap (λ q. take_unit plan (Some u) (past_piece (stepped program plan a q)))
      (with_event_is program plan r h.t h.ts a (Some k) h.todo)
      ∙ unit_turn program plan u r1 vs (next_at program plan (drop 1 r.pieces) _ _ rest) in
      let fuel' : r.proc.budget < r.proc.spent + suc f.0 =
      subst (λ x. r.proc.budget < r.proc.spent + x) f.1 enough_fuel in
      let al' : Along (act program plan s a) r' =
      record { beside = h.beside; kept_so = h.kept_so; running = h.running; paid = h.paid } in
      ap (λ x. replay_from program plan x r) f.1
      ∙ on_more program plan r r' f.0 (sync kind o k v ∷ unit u vs ∷ []) (i ∷ [])
      (coming program plan (act program plan s a) ms None next 0) go
      (ih (act program plan s a) r' next f.0 al' reads run (map_drop program plan (drop 1 r.pieces) _ _ rest)
      (fuel_on program plan r r' f.0 go fuel')) refl refl
      ∙ ap (λ x. given r (before (sync kind o k v ∷ unit u vs ∷ []) (x ∷ []) 1
      (coming program plan (act program plan s a) ms None next 0)))
      (sym (item_is program plan used inside calls closer home depth ends block outside Kept kept s r.proc a n w (Some k) al.beside h trap))

  -- an offer, which starts no unit
  pub offer_step : (n : Need) (a : Answer) (kind : SyncKind) (o k : ℕ) (v : ℤ) (w : Option EventId)
      (ms : List Moment) (s : Proc) (r : Replaying) (next fuel : ℕ) → OwnSteps ms → Along s r
      → need_of program plan s ≡ n → IsInside program plan s n → is_budget n ≡ false → is_stopped n ≡ false
      → trap_of n ≡ None
      → (want : _) → wanted_of program plan r.proc n ≡ Some want → fits want (found_of (sync kind o k v)) ≡ true
      → ((q : Replaying) → step_with program plan n (sync kind o k v) q ≡ more
      (past_piece (stepped program plan a (with_event program plan a (Some k) q))))
      → AreRead plan r.in_force ms → IsRun program plan (act program plan s a) ms
      → map (λ q. q.1) r.pieces
      ≡ sync kind o k v ∷ (coming program plan (act program plan s a) ms None next 0).pieces
      → r.proc.budget < r.proc.spent + fuel
      → replay_from program plan fuel r ≡ given r
      (before (sync kind o k v ∷ [])
      (item.Own (event_of program plan s
      (record { need = n; answer = a; writer = w; number = Some k }) s.todo) ∷ []) 1
      (coming program plan (act program plan s a) ms None next 0))
  offer_step n a kind o k v w ms s r next fuel ih al e within payable stopped trap want wants fit with reads run pieces enough_fuel =
      let h = moves program plan used inside calls closer home depth ends block outside Kept kept s r.proc a n al.beside al.kept_so al.running al.paid e within payable stopped in
      let f = enough program plan used inside calls closer home depth ends block outside Kept kept s r.proc fuel al.beside al.paid enough_fuel in
      let i : Item = event_at_head program plan r.proc h.t a (Some k) in
      let r' : Replaying = past_piece (stepped program plan a (record r { items = r.items ++ i ∷ [] })) in
      let first : (next_piece r).1 ≡ sync kind o k v = next_at program plan r.pieces _ _ pieces in
      let go : turn program plan r ≡ more r' =
      piece_turn program plan r n want h.need (late_at program plan r _ pieces tt) payable wants
      (ap (λ p. fits want (found_of p)) first ∙ fit)
      ∙ ap (λ p. step_with program plan n p r) first ∙ with r
      ∙ ap (λ q. more (past_piece (stepped program plan a q)))
      (with_event_is program plan r h.t h.ts a (Some k) h.todo) in
      let fuel' : r.proc.budget < r.proc.spent + suc f.0 =
      subst (λ x. r.proc.budget < r.proc.spent + x) f.1 enough_fuel in
      let al' : Along (act program plan s a) r' =
      record { beside = h.beside; kept_so = h.kept_so; running = h.running; paid = h.paid } in
      ap (λ x. replay_from program plan x r) f.1
      ∙ on_more program plan r r' f.0 (sync kind o k v ∷ []) (i ∷ [])
      (coming program plan (act program plan s a) ms None next 0) go
      (ih (act program plan s a) r' next f.0 al' reads run (map_drop program plan r.pieces _ _ pieces)
      (fuel_on program plan r r' f.0 go fuel')) refl refl
      ∙ ap (λ x. given r (before (sync kind o k v ∷ []) (x ∷ []) 1
      (coming program plan (act program plan s a) ms None next 0)))
      (sym (item_is program plan used inside calls closer home depth ends block outside Kept kept s r.proc a n w (Some k) al.beside h trap))
