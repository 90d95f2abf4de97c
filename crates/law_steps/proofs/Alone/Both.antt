-- All steps.
use Rattle.std.proofs.Common.{◌≡◌, ℕ, ◌+◌, ◌<◌, ℤ, pos, List, [], ◌∷◌, ◌++◌, map, Option, Some, None, true, refl, ap, sym, subst, ◌∙◌, arith, append-nil, eq-eqb}
use Rattle.std.proofs.lemmas.Cmp.{int_eq_equiv}
use Rattle.std.proofs.lemmas.Bool.{and_from}
use Rattle.std.specs.Ordering.{int_eq}
use Rattle.ppd_model.specs.Entries.{same_kind}
use Rattle.ppd_ast.specs.declared.status.SyncKind.{SyncKind}
use Rattle.ppd_ast.specs.declared.status.SyncKind.TheVariants as sync_kind
use Rattle.std.specs.Prelude.{◌&&◌, is_some, nat_eq}
use Rattle.ppd_ast.specs.declared.plan.Plan.{Plan}
use Rattle.ppd_ast.specs.declared.program.Program.{Program}
use Rattle.ppd_sem.specs.declared.event.Event.{Event}
use Rattle.ppd_sem.specs.declared.proc.Answer.{Answer}
use Rattle.ppd_sem.specs.declared.proc.Answer.TheVariants.{Value, Go}
use Rattle.ppd_sem.specs.declared.proc.Need.{Need}
use Rattle.ppd_sem.specs.declared.proc.Need.TheVariants.{Read, Write, Plain, Enter, Leave, Invoke, Back, P, V, Send, Offer, Done, Recv, End, Trap, Budget, Stopped}
use Rattle.ppd_sem.specs.declared.proc.Proc.{Proc}
use Rattle.ppd_sem.specs.declared.proc.Todo.{Todo}
use Rattle.ppd_sem.specs.Process.{act, need_of}
use Rattle.ppd_model.specs.declared.flow.Item.{Item}
use Rattle.ppd_model.specs.declared.flow.Item.TheVariants as item
use Rattle.ppd_model.specs.declared.trace.EventId.{EventId}
use Rattle.ppd_model.specs.FullTrace.{event_of}
use Rattle.ppd_model.specs.Logs.{status_of}
use Rattle.ppd_model.specs.Marks.{opened, closed}
use Rattle.ppd_model.specs.Story.{Moment}
use Rattle.ppd_model.specs.Synchronizations.{kind_of_sync}
use Rattle.ppd_model.specs.Fits.{fits}
use Rattle.ppd_model.specs.declared.wanted.Wanted.TheVariants as wanted
use Rattle.ppd_model.specs.declared.wanted.Found.TheVariants as found
use Rattle.ppd_model.specs.Replay.{Replaying, replay_from}
use Rattle.law_steps.proofs.Vocabulary.Relation.{HasEnds, IsBlock}
use Rattle.law_steps.specs.Coming.Pieces.{coming}
use Rattle.law_steps.specs.OpenBlocks.Run.{IsGiven, IsNumbered, IsRun}
use Rattle.law_steps.specs.InForce.Values.{AreRead, in_force_after}
use Rattle.law_steps.proofs.Vocabulary.Alone.{IsCrossing, IsInside, IsKept}
use Rattle.law_steps.proofs.Alone.Goals.{AcrossGoal, IsAlong, IsOpening, OwnGoal}
use Rattle.law_steps.proofs.Alone.Inside.{across_step, stops_inside}
use Rattle.law_steps.proofs.Alone.Last.{leaves_own, spent, traps, waits}
use Rattle.law_steps.proofs.Alone.Moved.{needs}
use Rattle.law_steps.proofs.Alone.Own.{quiet_step, read_step, unit_step}
use Rattle.law_steps.proofs.Alone.Synchronized.{offer_step, sync_step}
use Rattle.law_steps.proofs.Alone.Turns.{event_at_head, given, moment, with_event_is}

module _ (program : Program) (plan : Plan) (used inside : ℕ → Type 0) (calls : Type 0) (closer : Todo) (home : ℕ)
    (depth : ℕ) (ends : HasEnds program) (block : IsBlock program used inside calls) (outside : List Todo)
    (Kept : Proc → Proc → Type 0) (kept : IsKept program plan used inside calls closer home depth outside Kept)
    (Across : Proc → ℕ → Proc → Type 0)
    (crossing : IsCrossing program plan used inside calls closer home depth outside Kept Across) where
  abbrev Along : Proc → Replaying → Type 0
  Along s r = IsAlong program plan used inside calls closer home depth outside Kept s r

  abbrev OwnSteps : List Moment → Type 0
  OwnSteps ms = OwnGoal program plan used inside calls closer home depth outside Kept ms

  abbrev InnerSteps : List Moment → Type 0
  InnerSteps ms = AcrossGoal program plan used inside calls closer home depth outside Kept Across ms

  -- ---- a step of the interval's own

  fits_self : (kind : SyncKind) (o : ℕ) (v : ℤ) → same_kind kind kind ≡ true
      → fits (wanted.Sync kind o v) (found.Sync kind o v) ≡ true
  fits_self kind o v e = and_from (same_kind kind kind && nat_eq o o) (int_eq v v)
      (and_from (same_kind kind kind) (nat_eq o o) e (eq-eqb o o refl)) (int_eq_equiv.refl v)

  abbrev StepGoal : Need → Answer → Option EventId → Option ℕ → List ℤ → List Moment → Proc → Replaying → ℕ → ℕ → Type 0
  StepGoal n a w k vs ms s r next fuel =
      IsRun program plan (act program plan s a) ms → AreRead plan r.in_force (moment n a w k vs ∷ ms)
      → map (λ q. q.1) r.pieces ≡ (coming program plan s (moment n a w k vs ∷ ms) None next r.since).pieces
      → r.proc.budget < r.proc.spent + fuel
      → replay_from program plan fuel r ≡ given r (coming program plan s (moment n a w k vs ∷ ms) None next r.since)

  as_given : (n : Need) (a : Answer) (w : Option EventId) (k : Option ℕ) (vs : List ℤ) (ms : List Moment)
      (s : Proc) (r : Replaying) (next fuel : ℕ) → a ≡ Go → k ≡ None → StepGoal n Go w None vs ms s r next fuel
      → StepGoal n a w k vs ms s r next fuel
  as_given n a w k vs ms s r next fuel g nb goal =
      subst (λ x. StepGoal n x w k vs ms s r next fuel) (sym g)
      (subst (λ y. StepGoal n Go w y vs ms s r next fuel) (sym nb) goal)

  as_numbered : (n : Need) (a b : Answer) (w : Option EventId) (k : Option ℕ) (j : ℕ) (vs : List ℤ)
      (ms : List Moment) (s : Proc) (r : Replaying) (next fuel : ℕ) → a ≡ b → k ≡ Some j
      → StepGoal n b w (Some j) vs ms s r next fuel → StepGoal n a w k vs ms s r next fuel
  as_numbered n a b w k j vs ms s r next fuel g nb goal =
      subst (λ x. StepGoal n x w k vs ms s r next fuel) (sym g)
      (subst (λ y. StepGoal n b w y vs ms s r next fuel) (sym nb) goal)

  abbrev inside_is : (s : Proc) (n : Need) → opened program plan s n ≡ None → closed program plan s n ≡ None
      → status_of n ≡ None → IsInside program plan s n
  inside_is s n o c t = record { opens = o; closes = c; goes_on = t }

  enters : (b u : ℕ) (a : Answer) (w : Option EventId) (k : Option ℕ) (vs : List ℤ) (ms : List Moment) (s : Proc)
      (r : Replaying) (next fuel : ℕ) → InnerSteps ms → Along s r → need_of program plan s ≡ Enter b u
      → StepGoal (Enter b u) a w k vs ms s r next fuel
  enters b u a w k vs ms s r next fuel ih al e run reads pieces enough_fuel =
      let c = crossing.begins s r.proc a _ al.beside al.kept_so al.running (ap (opened program plan s) e) in
      let o : IsOpening program plan r b (Enter b u) [] =
      record {
        need = c.0 ∙ e;
        payable = refl;
        wants = refl;
        call = ap (λ xs. record r { items = xs })
            (sym (append-nil r.items));
      } in
      ih (act program plan s a) r (in_force_after plan r.in_force (moment (Enter b u) a w k vs))
      (record { level = 0; interval = next; block = b }) (Enter b u) []
      (next + 1) r.since fuel o c.1 reads.1 run pieces
      (omega (arith, al.beside.spent, al.beside.budget, al.paid)) enough_fuel

  invokes : (b u : ℕ) (w : Option EventId) (vs : List ℤ) (ms : List Moment) (s : Proc) (r : Replaying)
      (next fuel : ℕ) → InnerSteps ms → Along s r → need_of program plan s ≡ Invoke (Some b) u
      → StepGoal (Invoke (Some b) u) Go w None vs ms s r next fuel
  invokes b u w vs ms s r next fuel ih al e run reads pieces enough_fuel =
      let n : Need = Invoke (Some b) u in
      let c = crossing.begins s r.proc Go _ al.beside al.kept_so al.running (ap (opened program plan s) e) in
      let h = needs program plan used inside calls closer home depth ends block outside Kept kept s r.proc n al.beside al.kept_so al.running e refl refl refl refl in
      let it : Item = item.Own (event_of program plan s
      (record { need = n; answer = Go; writer = w; number = None }) s.todo) in
      let same : event_at_head program plan r.proc h.t Go None ≡ it =
      sym (ap (λ ys. item.Own (event_of program plan s
      (record { need = n; answer = Go; writer = w; number = None }) ys))
      (al.beside.todo ∙ ap (λ ys. ys ++ outside) h.todo)
      ∙ ap (λ (x : Event). item.Own (record x { number = None })) (h.event Go)) in
      let o : IsOpening program plan r b n (it ∷ []) =
      record {
        need = c.0 ∙ e;
        payable = refl;
        wants = refl;
        call = with_event_is program plan r h.t h.ts Go None h.todo
            ∙ ap (λ x. record r { items = r.items ++ x ∷ [] }) same;
      } in
      ih (act program plan s Go) r (in_force_after plan r.in_force (moment n Go w None vs))
      (record { level = 0; interval = next; block = b }) n (it ∷ [])
      (next + 1) r.since fuel o c.1 reads.1 run pieces
      (omega (arith, al.beside.spent, al.beside.budget, al.paid)) enough_fuel

  step_at : (n : Need) (w : Option EventId) (vs : List ℤ) (ms : List Moment) → OwnSteps ms → InnerSteps ms
      → (s : Proc) (r : Replaying) (next fuel : ℕ) → Along s r → need_of program plan s ≡ n
      → (a : Answer) → IsGiven n a → (k : Option ℕ) → IsNumbered (is_some (kind_of_sync n)) k
      → StepGoal n a w k vs ms s r next fuel
  step_at (Read c) w vs ms io ia s r next fuel al e a g k nb = λ run reads pieces fu.
      subst (λ x. IsRun program plan (act program plan s x) ms
      → map (λ q. q.1) r.pieces
      ≡ (coming program plan s (moment (Read c) x w k vs ∷ ms) None next r.since).pieces
      → replay_from program plan fuel r ≡ given r
      (coming program plan s (moment (Read c) x w k vs ∷ ms) None next r.since)) (sym reads.0)
      (λ run' pieces'. read_step program plan used inside calls closer home depth ends block outside Kept kept c w ms s r next fuel io al e reads.1 run' pieces' fu) run pieces
  step_at (Write c v) w vs ms io ia s r next fuel al e a g k nb =
      as_given (Write c v) a w k vs ms s r next fuel g nb
      (λ run reads pieces fu. quiet_step program plan used inside calls closer home depth ends block outside Kept kept (Write c v) w ms s r next fuel ((c, v) ∷ r.in_force) io al e (inside_is s (Write c v) refl refl refl) refl refl refl refl (λ q. refl) (λ q i. ap (λ xs. record q { in_force = (c, v) ∷ xs }) i) reads.1 run pieces fu)
  step_at Plain w vs ms io ia s r next fuel al e a g k nb =
      as_given Plain a w k vs ms s r next fuel g nb
      (λ run reads pieces fu. quiet_step program plan used inside calls closer home depth ends block outside Kept kept Plain w ms s r next fuel r.in_force io al e (inside_is s Plain refl refl refl) refl refl refl refl (λ q. refl) (λ q i. ap (λ xs. record q { in_force = xs }) i) reads.1 run pieces fu)
  step_at (Back None None) w vs ms io ia s r next fuel al e a g k nb =
      as_given (Back None None) a w k vs ms s r next fuel g nb
      (λ run reads pieces fu. quiet_step program plan used inside calls closer home depth ends block outside Kept kept (Back None None) w ms s r next fuel r.in_force io al e (inside_is s (Back None None) refl refl refl) refl refl refl refl (λ q. refl) (λ q i. ap (λ xs. record q { in_force = xs }) i) reads.1 run pieces fu)
  step_at (Back None (Some u)) w vs ms io ia s r next fuel al e a g k nb =
      as_given (Back None (Some u)) a w k vs ms s r next fuel g nb
      (λ run reads pieces fu. unit_step program plan used inside calls closer home depth ends block outside Kept kept (Back None (Some u)) u vs w ms s r next fuel io al e (inside_is s (Back None (Some u)) refl refl refl) refl refl refl refl (λ q. refl) reads.1 run pieces fu)
  step_at (Invoke None u) w vs ms io ia s r next fuel al e a g k nb =
      as_given (Invoke None u) a w k vs ms s r next fuel g nb
      (λ run reads pieces fu. unit_step program plan used inside calls closer home depth ends block outside Kept kept (Invoke None u) u vs w ms s r next fuel io al e (inside_is s (Invoke None u) refl refl refl) refl refl refl refl (λ q. refl) reads.1 run pieces fu)
  step_at (P o u) w vs ms io ia s r next fuel al e a g k nb =
      as_numbered (P o u) a Go w k nb.0 vs ms s r next fuel g nb.1
      (λ run reads pieces fu. sync_step program plan used inside calls closer home depth ends block outside Kept kept (P o u) Go sync_kind.P o nb.0 (pos 0) u vs w ms s r next fuel io al e (inside_is s (P o u) refl refl refl) refl refl refl (wanted.Sync sync_kind.P o (pos 0)) refl (fits_self sync_kind.P o (pos 0) refl) (λ q. refl) reads.1 run pieces fu)
  step_at (V o u) w vs ms io ia s r next fuel al e a g k nb =
      as_numbered (V o u) a Go w k nb.0 vs ms s r next fuel g nb.1
      (λ run reads pieces fu. sync_step program plan used inside calls closer home depth ends block outside Kept kept (V o u) Go sync_kind.V o nb.0 (pos 0) u vs w ms s r next fuel io al e (inside_is s (V o u) refl refl refl) refl refl refl (wanted.Sync sync_kind.V o (pos 0)) refl (fits_self sync_kind.V o (pos 0) refl) (λ q. refl) reads.1 run pieces fu)
  step_at (Send o v u) w vs ms io ia s r next fuel al e a g k nb =
      as_numbered (Send o v u) a Go w k nb.0 vs ms s r next fuel g nb.1
      (λ run reads pieces fu. sync_step program plan used inside calls closer home depth ends block outside Kept kept (Send o v u) Go sync_kind.Send o nb.0 v u vs w ms s r next fuel io al e (inside_is s (Send o v u) refl refl refl) refl refl refl (wanted.Sync sync_kind.Send o v) refl (fits_self sync_kind.Send o v refl) (λ q. refl) reads.1 run pieces fu)
  step_at (Offer o v) w vs ms io ia s r next fuel al e a g k nb =
      as_numbered (Offer o v) a Go w k nb.0 vs ms s r next fuel g nb.1
      (λ run reads pieces fu. offer_step program plan used inside calls closer home depth ends block outside Kept kept (Offer o v) Go sync_kind.Send o nb.0 v w ms s r next fuel io al e (inside_is s (Offer o v) refl refl refl) refl refl refl (wanted.Sync sync_kind.Send o v) refl (fits_self sync_kind.Send o v refl) (λ q. refl) reads.1 run pieces fu)
  step_at (Done o u) w vs ms io ia s r next fuel al e a g k nb =
      as_numbered (Done o u) a Go w k nb.0 vs ms s r next fuel g nb.1
      (λ run reads pieces fu. sync_step program plan used inside calls closer home depth ends block outside Kept kept (Done o u) Go sync_kind.Done o nb.0 (pos 0) u vs w ms s r next fuel io al e (inside_is s (Done o u) refl refl refl) refl refl refl (wanted.Sync sync_kind.Done o (pos 0)) refl (fits_self sync_kind.Done o (pos 0) refl) (λ q. refl) reads.1 run pieces fu)
  step_at (Recv o u) w vs ms io ia s r next fuel al e a g k nb =
      as_numbered (Recv o u) a (Value g.0) w k nb.0 vs ms s r next fuel g.1 nb.1
      (λ run reads pieces fu. sync_step program plan used inside calls closer home depth ends block outside Kept kept (Recv o u) (Value g.0) sync_kind.Recv o nb.0 g.0 u vs w ms s r next fuel io al e (inside_is s (Recv o u) refl refl refl) refl refl refl (wanted.Sync sync_kind.Recv o (pos 0)) refl (fits_self sync_kind.Recv o (pos 0) refl) (λ q. refl) reads.1 run pieces fu)
  step_at (Enter b u) w vs ms io ia s r next fuel al e a g k nb = enters b u a w k vs ms s r next fuel ia al e
  step_at (Invoke (Some b) u) w vs ms io ia s r next fuel al e a g k nb =
      as_given (Invoke (Some b) u) a w k vs ms s r next fuel g nb (invokes b u w vs ms s r next fuel ia al e)
  step_at (Leave b u) w vs ms io ia s r next fuel al e a g k nb =
      as_given (Leave b u) a w k vs ms s r next fuel g nb
      (λ run reads pieces fu. leaves_own program plan used inside calls closer home depth ends block outside Kept kept (Leave b u) w _ s r fuel al e refl refl pieces fu)
  step_at (Back (Some b) u) w vs ms io ia s r next fuel al e a g k nb =
      as_given (Back (Some b) u) a w k vs ms s r next fuel g nb
      (λ run reads pieces fu. leaves_own program plan used inside calls closer home depth ends block outside Kept kept (Back (Some b) u) w _ s r fuel al e refl refl pieces fu)
  step_at (End b) w vs ms io ia s r next fuel al e a g k nb =
      as_given (End b) a w k vs ms s r next fuel g nb
      (λ run reads pieces fu. leaves_own program plan used inside calls closer home depth ends block outside Kept kept (End b) w _ s r fuel al e refl refl pieces fu)
  step_at (Trap t) w vs ms io ia s r next fuel al e a g k nb =
      as_given (Trap t) a w k vs ms s r next fuel g nb
      (λ run reads pieces fu. traps program plan used inside calls closer home depth ends block outside Kept kept t w s r fuel al e pieces fu)
  step_at Budget w vs ms io ia s r next fuel al e a g k nb =
      λ run reads pieces fu. spent program plan used inside calls closer home depth ends block outside Kept kept s r fuel al pieces fu
  step_at Stopped w vs ms io ia s r next fuel al e a g k nb = absurd g

  -- ---- all steps

  pub record BothGoals (ms : List Moment) : Type 0 where
    pub own : OwnSteps ms
    pub across : InnerSteps ms

  own_step : (m : Moment) (ms : List Moment) → OwnSteps ms → InnerSteps ms → OwnSteps (m ∷ ms)
  own_step m ms io ia s r next fuel al reads run pieces fu =
      step_at m.taken.need m.taken.writer m.unit_values ms io ia s r next fuel al
      (sym run.0) m.taken.answer run.1 m.taken.number run.2 run.3 reads pieces fu

  pub both : (ms : List Moment) → BothGoals ms
  both [] = record {
    own = λ s r next fuel al reads run pieces fu. waits program plan used inside calls closer home depth ends block outside Kept kept s r next fuel al run pieces fu;
    across =
        λ x r zs i n items next since fuel o a reads run pieces paid fu. stops_inside program plan used inside calls closer home depth ends block outside Kept kept Across crossing r i n items since fuel o pieces paid fu;
  }
  both (m ∷ ms) =
      let ih : BothGoals ms = both ms in
      record {
        own = own_step m ms ih.own ih.across;
        across =
            across_step program plan used inside calls closer home depth ends block outside Kept kept Across crossing m ms ih.own ih.across;
      }
