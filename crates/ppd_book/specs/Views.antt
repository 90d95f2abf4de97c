-- A process on a copy, which goes on by Plain steps, and their commit.
use Rattle.ppd_model.specs.Setting.{Setting}
use Rattle.std.specs.Prelude.{◌≡◌, ◌≢◌, ℕ, ◌+◌, ◌-◌, ◌<◌, ◌≤◌, [], ◌++◌, length, replicate, Option, Some, None}
use Rattle.ppd_ast.specs.declared.plan.Plan.{Plan}
use Rattle.ppd_ast.specs.declared.program.Program.{Program}
use Rattle.ppd_sem.specs.declared.proc.Answer.TheVariants.{Go}
use Rattle.ppd_sem.specs.declared.proc.Need.{Need}
use Rattle.ppd_sem.specs.declared.proc.Need.TheVariants.{Plain}
use Rattle.ppd_sem.specs.declared.proc.Proc.{Proc}
use Rattle.ppd_sem.specs.Process.{act, need_of}
use Rattle.ppd_sem.specs.Runs.{IsNumbered, IsRunnable, IsRunning}
use Rattle.ppd_model.specs.World.{need}
use Rattle.ppd_world.specs.Plain.{GoesPlainly, stepped_times}
use Rattle.ppd_book_steps.specs.States.{state_of}
use Rattle.ppd_book.specs.declared.commit.Commit.{Commit}
use Rattle.ppd_book.specs.declared.commit.Commit.TheVariants.{Done, Stale}
use Rattle.ppd_book.specs.declared.view.TheConstants.{MOST_VIEW_STEPS}
use Rattle.ppd_book.specs.Held.{Held}

-- ---- a view

-- a worker's process: its state when the view was made, and its state after so many steps, each without what it had
-- printed before the view
pub record Seen : Type 0 where
  pub worker : ℕ
  pub before : Proc
  pub after : Proc
  pub count : ℕ

-- with these tables, which are the run's: the worker is a process of the program, with this budget, and it comes
-- from the first state, which printed nothing, to the second by that many Plain steps, not more than a view goes on
-- by; this is what it needs there
pub record IsView (setting : Setting) (p : Program) (q : Plan) (n : Need) (v : Seen) : Type 0 where
  pub is_program : p ≡ setting.program
  pub is_plan : q ≡ setting.plan
  pub runnable : IsRunnable p
  pub numbered : IsNumbered q
  pub worker : v.worker < length setting.program.bodies - setting.program.functions
  pub running : IsRunning p v.after
  pub is_budget : v.before.budget ≡ setting.budget
  pub is_unprinted : v.before.prints ≡ []
  pub goes : GoesPlainly setting.program setting.plan v.before v.count v.after
  pub few : v.count ≤ MOST_VIEW_STEPS
  pub is_need : n ≡ need_of p q v.after

-- the next step is Plain, and there were fewer than a view goes on by
pub record HasMore (program : Program) (plan : Plan) (v : Seen) : Type 0 where
  pub plain : need_of program plan v.after ≡ Plain
  pub few : v.count < MOST_VIEW_STEPS

-- one step more
abbrev pub advanced : Program → Plan → Seen → Seen
advanced program plan v = record v { after = act program plan v.after Go; count = v.count + 1 }

-- ---- a view that is made

-- what process p needs
abbrev pub need_in : Held → ℕ → Need
need_in held p = need held.world.setting.program held.world.setting.plan held.world.world p

-- the state of process p, what it printed aside, if it is there
abbrev pub state_in : Held → ℕ → Option Proc
state_in held p = state_of held.world p

-- before the first step of a view
pub record IsFresh (worker : ℕ) (v : Seen) : Type 0 where
  pub is_worker : v.worker ≡ worker
  pub after : v.after ≡ v.before
  pub count : v.count ≡ 0

-- a fresh view of the state of the worker's process where this needs nothing but itself, and none exactly where it
-- needs more
abbrev pub IsViewed : Held → ℕ → Option Seen → Type 0
IsViewed held worker None = need_in held worker ≢ Plain
IsViewed held worker (Some v) =
    (need_in held worker ≡ Plain) × (state_in held worker ≡ Some v.before) × IsFresh worker v

-- ---- its commit

-- the process is in the state that was copied
abbrev pub IsCurrent : Held → Seen → Type 0
IsCurrent held v = state_in held v.worker ≡ Some v.before

-- where it is in that state, it took the view's steps, and its number was written down once for each; where it is in
-- another, nothing changed
abbrev pub IsCommit : Held → Held → Seen → Commit → Type 0
IsCommit old new v Done =
    IsCurrent old v
    × (new.world ≡ stepped_times old.world v.worker v.count)
    × (new.schedule ≡ old.schedule ++ replicate v.count v.worker)
IsCommit old new v Stale = (IsCurrent old v → ⊥) × (new ≡ old)
