-- A step of the interval's own.
use Rattle.law_steps.proofs.Alone.Goals.{IsAlong, OwnGoal}
use Rattle.law_steps.proofs.Alone.Moved.{enough, item_is, moves}
use Rattle.law_steps.proofs.Alone.Turns.{event_at_head, fuel_on, given, is_stopped, late_at, map_drop, next_at, on_more, with_event_is}
use Rattle.law_steps.proofs.Beside.Turned.{plain_turn, unit_turn}
use Rattle.law_steps.proofs.Coming.Late.{late_own}
use Rattle.law_steps.proofs.Vocabulary.Alone.{IsInside, IsKept}
use Rattle.law_steps.proofs.Vocabulary.Relation.{HasEnds, IsBlock}
use Rattle.law_steps.specs.Coming.Pieces.{before, coming}
use Rattle.law_steps.specs.InForce.Values.{AreRead}
use Rattle.law_steps.specs.OpenBlocks.Run.{IsRun}
use Rattle.ppd_ast.specs.declared.plan.Plan.{Plan}
use Rattle.ppd_ast.specs.declared.program.Program.{Program}
use Rattle.ppd_model.specs.Fits.{wanted_of}
use Rattle.ppd_model.specs.Replay.{Replaying, is_budget, more, past_piece, replay_from, step_without, stepped, take_unit, turn, value_in_force, with_event, with_write}
use Rattle.ppd_model.specs.Pieces.{unit}
use Rattle.ppd_model.specs.FullTrace.{event_of}
use Rattle.ppd_model.specs.Story.{Moment}
use Rattle.ppd_model.specs.declared.flow.Item.{Item}
use Rattle.ppd_model.specs.declared.flow.Item.TheVariants as item
use Rattle.ppd_model.specs.declared.trace.EventId.{EventId}
use Rattle.ppd_sem.specs.Described.{trap_of}
use Rattle.ppd_sem.specs.Process.{act, need_of}
use Rattle.ppd_sem.specs.declared.proc.Answer.{Answer}
use Rattle.ppd_sem.specs.declared.proc.Answer.TheVariants.{Go, Value}
use Rattle.ppd_sem.specs.declared.proc.Need.{Need}
use Rattle.ppd_sem.specs.declared.proc.Need.TheVariants.{Read}
use Rattle.ppd_sem.specs.declared.proc.Proc.{Proc}
use Rattle.ppd_sem.specs.declared.proc.Todo.{Todo}
use Rattle.std.proofs.Common.{List, None, Option, Some, [], ap, append-nil, arith, false, map, refl, subst, suc, sym, ℕ, ℤ, ◌++◌, ◌+◌, ◌<◌, ◌∙◌, ◌∷◌, ◌≡◌}
use Rattle.std.specs.Option.{option_map_or}
use Rattle.std.specs.Prelude.{slice_get, zip}

module _ (program : Program) (plan : Plan) (used inside : ℕ → Type 0) (calls : Type 0) (closer : Todo) (home : ℕ)
    (depth : ℕ) (ends : HasEnds program) (block : IsBlock program used inside calls) (outside : List Todo)
    (Kept : Proc → Proc → Type 0) (kept : IsKept program plan used inside calls closer home depth outside Kept) where
  abbrev Along : Proc → Replaying → Type 0
  Along s r = IsAlong program plan used inside calls closer home depth outside Kept s r

  abbrev OwnSteps : List Moment → Type 0
  OwnSteps ms = OwnGoal program plan used inside calls closer home depth outside Kept ms

  -- a step without a piece and without a unit
  pub quiet_step : (n : Need) (w : Option EventId) (ms : List Moment) (s : Proc) (r : Replaying) (next fuel : ℕ)
      (zs : List (ℕ × ℤ)) → OwnSteps ms → Along s r → need_of program plan s ≡ n → IsInside program plan s n
      → is_budget n ≡ false → is_stopped n ≡ false → trap_of n ≡ None
      → wanted_of program plan r.proc n ≡ None
      → ((q : Replaying) → step_without program plan n q ≡ more
      (stepped program plan Go (with_write n (with_event program plan Go None q))))
      → ((q : Replaying) → q.in_force ≡ r.in_force → with_write n q ≡ record q { in_force = zs })
      → AreRead plan zs ms → IsRun program plan (act program plan s Go) ms
      → map (λ q. q.1) r.pieces ≡ (coming program plan (act program plan s Go) ms None next (r.since + 1)).pieces
      → r.proc.budget < r.proc.spent + fuel
      → replay_from program plan fuel r ≡ given r
      (before [] (item.Own (event_of program plan s
      (record { need = n; answer = Go; writer = w; number = None }) s.todo) ∷ []) 1
      (coming program plan (act program plan s Go) ms None next (r.since + 1)))
  quiet_step n w ms s r next fuel zs ih al e within payable stopped trap free without wr reads run pieces enough_fuel =
      let h = moves program plan used inside calls closer home depth ends block outside Kept kept s r.proc Go n al.beside al.kept_so al.running al.paid e within payable stopped in
      let f = enough program plan used inside calls closer home depth ends block outside Kept kept s r.proc fuel al.beside al.paid enough_fuel in
      let i : Item = event_at_head program plan r.proc h.t Go None in
      let r' : Replaying = record {
        proc = act program plan r.proc Go;
        in_force = zs;
        pieces = r.pieces;
        since = r.since + 1;
        steps = r.steps + 1;
        items = r.items ++ i ∷ [];
      } in
      let late = late_at program plan r _ pieces
      (late_own program plan (r.since + 1) ms (act program plan s Go) next (r.since + 1) (omega arith)) in
      let go : turn program plan r ≡ more r' =
      plain_turn program plan r n h.need late payable free ∙ without r
      ∙ ap (λ q. more (stepped program plan Go (with_write n q))) (with_event_is program plan r h.t h.ts Go None h.todo)
      ∙ ap (λ q. more (stepped program plan Go q)) (wr (record r { items = r.items ++ i ∷ [] }) refl) in
      let fuel' : r.proc.budget < r.proc.spent + suc f.0 =
      subst (λ x. r.proc.budget < r.proc.spent + x) f.1 enough_fuel in
      let al' : Along (act program plan s Go) r' =
      record { beside = h.beside; kept_so = h.kept_so; running = h.running; paid = h.paid } in
      ap (λ x. replay_from program plan x r) f.1
      ∙ on_more program plan r r' f.0 [] (i ∷ [])
      (coming program plan (act program plan s Go) ms None next (r.since + 1)) go
      (ih (act program plan s Go) r' next f.0 al' reads run pieces (fuel_on program plan r r' f.0 go fuel')) refl refl
      ∙ ap (λ x. given r (before [] (x ∷ []) 1
      (coming program plan (act program plan s Go) ms None next (r.since + 1))))
      (sym (item_is program plan used inside calls closer home depth ends block outside Kept kept s r.proc Go n w None al.beside h trap))

  -- a read, which is no event
  pub read_step : (c : ℕ) (w : Option EventId) (ms : List Moment) (s : Proc) (r : Replaying) (next fuel : ℕ)
      → OwnSteps ms → Along s r → need_of program plan s ≡ Read c
      → (let a : Answer = Value (value_in_force r.in_force c) in
      AreRead plan r.in_force ms → IsRun program plan (act program plan s a) ms
      → map (λ q. q.1) r.pieces ≡ (coming program plan (act program plan s a) ms None next (r.since + 1)).pieces
      → r.proc.budget < r.proc.spent + fuel
      → replay_from program plan fuel r ≡ given r
      (before [] [] 1 (coming program plan (act program plan s a) ms None next (r.since + 1))))
  read_step c w ms s r next fuel ih al e reads run pieces enough_fuel =
      let a : Answer = Value (value_in_force r.in_force c) in
      let h = moves program plan used inside calls closer home depth ends block outside Kept kept s r.proc a
      (Read c) al.beside al.kept_so al.running al.paid e
      (record { opens = refl; closes = refl; goes_on = refl }) refl refl in
      let f = enough program plan used inside calls closer home depth ends block outside Kept kept s r.proc fuel al.beside al.paid enough_fuel in
      let r' : Replaying = stepped program plan a r in
      let late = late_at program plan r _ pieces
      (late_own program plan (r.since + 1) ms (act program plan s a) next (r.since + 1) (omega arith)) in
      let go : turn program plan r ≡ more r' = plain_turn program plan r (Read c) h.need late refl refl in
      let fuel' : r.proc.budget < r.proc.spent + suc f.0 =
      subst (λ x. r.proc.budget < r.proc.spent + x) f.1 enough_fuel in
      let al' : Along (act program plan s a) r' =
      record { beside = h.beside; kept_so = h.kept_so; running = h.running; paid = h.paid } in
      ap (λ x. replay_from program plan x r) f.1
      ∙ on_more program plan r r' f.0 [] [] (coming program plan (act program plan s a) ms None next (r.since + 1)) go
      (ih (act program plan s a) r' next f.0 al' reads run pieces (fuel_on program plan r r' f.0 go fuel')) refl
      (sym (append-nil r.items))

  -- a step without a piece that starts a unit
  pub unit_step : (n : Need) (u : ℕ) (vs : List ℤ) (w : Option EventId) (ms : List Moment) (s : Proc)
      (r : Replaying) (next fuel : ℕ) → OwnSteps ms → Along s r → need_of program plan s ≡ n
      → IsInside program plan s n → is_budget n ≡ false → is_stopped n ≡ false → trap_of n ≡ None
      → wanted_of program plan r.proc n ≡ None
      → ((q : Replaying) → step_without program plan n q ≡ take_unit plan (Some u)
      (stepped program plan Go (with_event program plan Go None q)))
      → AreRead plan (zip (option_map_or (λ u. u.cells) (slice_get plan.units u) []) vs) ms
      → IsRun program plan (act program plan s Go) ms
      → map (λ q. q.1) r.pieces ≡ unit u vs ∷ (coming program plan (act program plan s Go) ms None next 0).pieces
      → r.proc.budget < r.proc.spent + fuel
      → replay_from program plan fuel r ≡ given r
      (before (unit u vs ∷ []) (item.Own
      (event_of program plan s (record { need = n; answer = Go; writer = w; number = None }) s.todo) ∷ []) 1
      (coming program plan (act program plan s Go) ms None next 0))
  unit_step n u vs w ms s r next fuel ih al e within payable stopped trap free without reads run pieces enough_fuel =
      let h = moves program plan used inside calls closer home depth ends block outside Kept kept s r.proc Go n al.beside al.kept_so al.running al.paid e within payable stopped in
      let f = enough program plan used inside calls closer home depth ends block outside Kept kept s r.proc fuel al.beside al.paid enough_fuel in
      let i : Item = event_at_head program plan r.proc h.t Go None in
      let r1 : Replaying = stepped program plan Go (record r { items = r.items ++ i ∷ [] }) in
      let r' : Replaying = record (past_piece r1) { in_force = zip (option_map_or (λ u. u.cells) (slice_get plan.units u) []) vs } in
      let late = late_at program plan r _ pieces tt in
      let go : turn program plan r ≡ more r' =
      plain_turn program plan r n h.need late payable free ∙ without r
      ∙ ap (λ q. take_unit plan (Some u) (stepped program plan Go q)) (with_event_is program plan r h.t h.ts Go None h.todo)
      ∙ unit_turn program plan u r1 vs (next_at program plan r.pieces _ _ pieces) in
      let fuel' : r.proc.budget < r.proc.spent + suc f.0 =
      subst (λ x. r.proc.budget < r.proc.spent + x) f.1 enough_fuel in
      let al' : Along (act program plan s Go) r' =
      record { beside = h.beside; kept_so = h.kept_so; running = h.running; paid = h.paid } in
      ap (λ x. replay_from program plan x r) f.1
      ∙ on_more program plan r r' f.0 (unit u vs ∷ []) (i ∷ [])
      (coming program plan (act program plan s Go) ms None next 0) go
      (ih (act program plan s Go) r' next f.0 al' reads run (map_drop program plan r.pieces _ _ pieces)
      (fuel_on program plan r r' f.0 go fuel')) refl refl
      ∙ ap (λ x. given r (before (unit u vs ∷ []) (x ∷ []) 1
      (coming program plan (act program plan s Go) ms None next 0)))
      (sym (item_is program plan used inside calls closer home depth ends block outside Kept kept s r.proc Go n w None al.beside h trap))
