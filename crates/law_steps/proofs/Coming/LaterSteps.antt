-- The index of a log gives each interval the pieces that are to come.
use Rattle.std.proofs.Common.{◌≡◌, ℕ, zero, suc, List, [], ◌∷◌, Option, Some, None, refl, sym, subst}
use Rattle.ppd_ast.specs.declared.plan.Plan.{Plan}
use Rattle.ppd_ast.specs.declared.program.Program.{Program}
use Rattle.ppd_ast.specs.declared.status.Status.{Status}
use Rattle.ppd_model.specs.IntervalLogs.{Indexing}
use Rattle.ppd_model.specs.declared.state.Logging.{Logging}
use Rattle.ppd_model.specs.Logs.{log_step, status_of}
use Rattle.ppd_model.specs.Marks.{Mark, opened, closed}
use Rattle.ppd_model.specs.Story.{Moment}
use Rattle.ppd_model.specs.Synchronizations.{sync_of}
use Rattle.law_steps.proofs.Vocabulary.Nested.{Goes, HasStopped, IsNested}
use Rattle.law_steps.proofs.Coming.Shapes.{Shape, closes, opens, passes, shape, stops}
use Rattle.law_steps.proofs.Coming.Shapes as shapes
use Rattle.law_steps.proofs.Coming.Later.{Comes, Steps, Stops, finals, next_proc, rest_by, stepped, stopped, waits}
use Rattle.law_steps.proofs.Coming.UnitSteps.{unit_at}
use Rattle.law_steps.proofs.Coming.OpeningSteps.{step_opens}
use Rattle.law_steps.proofs.Coming.ClosingSteps.{step_closes}
use Rattle.law_steps.proofs.Coming.PassingSteps.{step_passes}
use Rattle.law_steps.proofs.Coming.StoppingSteps.{step_ends, step_stops}

module _ (program : Program) (plan : Plan) where
  pub steps_by : (l : Logging) (m : Moment) (ms : List Moment) (F : Indexing → Indexing) (n : ℕ)
      (o c : Option Mark) (s : Option Status) → Shape (sync_of m.taken) (unit_at program plan m) o c s
      → ((r n : ℕ) → r ≡ rest_by program plan l m o (sync_of m.taken) c s
      → IsNested program plan (next_proc program plan l m) ms n
      → Comes program plan (next_proc program plan l m) ms F r n)
      → (HasStopped (next_proc program plan l m) ms → Stops program plan (next_proc program plan l m) ms F)
      → Goes n o c s (IsNested program plan (next_proc program plan l m) ms)
      (HasStopped (next_proc program plan l m) ms)
      → Steps program plan l m ms o c s (λ x. F (stepped program plan l m o (sync_of m.taken) c s x)) n
  steps_by l m ms F n (Some a) None None (opens _ e) f g h =
      step_opens program plan l m ms F n a (sync_of m.taken) e
      (f (rest_by program plan l m (Some a) (sync_of m.taken) None None) (suc n) refl h)
  steps_by l m ms F zero None (Some a) None (closes _ e) f g h = absurd h
  steps_by l m ms F (suc n) None (Some a) None (closes _ e) f g h =
      step_closes program plan l m ms F n a (sync_of m.taken) e
      (f (rest_by program plan l m None (sync_of m.taken) (Some a) None) n refl h)
  steps_by l m ms F n None (Some a) (Some s) (shapes.ends _ _ e eu) f g h =
      step_ends program plan l m ms F n a s (sync_of m.taken) (unit_at program plan m) e eu h.0 (g h.1)
  steps_by l m ms F n None None (Some s) (stops _ e eu) f g h =
      step_stops program plan l m ms F n s (sync_of m.taken) (unit_at program plan m) e eu (g h)
  steps_by l m ms F n None None None passes f g h =
      step_passes program plan l m ms F n (f (rest_by program plan l m None (sync_of m.taken) None None) n refl h)
  steps_by l m ms F n (Some a) None (Some s) z f g h = elim z [ ]
  steps_by l m ms F n (Some a) (Some _) s z f g h = elim z [ ]

  pub comes : (ms : List Moment) (l : Logging) (n : ℕ) → IsNested program plan l.proc ms n
      → Comes program plan l.proc ms (finals program plan l ms) l.rest n
  comes [] l n h = waits program plan l n h
  comes (m ∷ ms) l n h =
      let z : Steps program plan l m ms (opened program plan l.proc m.taken.need)
      (closed program plan l.proc m.taken.need) (status_of m.taken.need) (finals program plan l (m ∷ ms)) n =
      steps_by l m ms (finals program plan (log_step program plan l m) ms) n
      (opened program plan l.proc m.taken.need) (closed program plan l.proc m.taken.need) (status_of m.taken.need)
      (shape program plan l.proc m.taken m.taken.need refl)
      (λ r n e h. subst (λ r. Comes program plan (next_proc program plan l m) ms
      (finals program plan (log_step program plan l m) ms) r n) (sym e)
      (comes ms (log_step program plan l m) n h))
      (λ h. stopped program plan (log_step program plan l m) ms h) h in
      record { own = z.own; inner = z.inner; past = z.past; begins = z.begins }
