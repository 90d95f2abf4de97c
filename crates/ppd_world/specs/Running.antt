-- A world with its logs, and the schedule that it comes from.
use Rattle.ppd_model.specs.Setting.{Setting}
use Rattle.std.specs.Prelude.{◌≡◌, ◌≢◌, ℕ, ◌+◌, ◌<◌, ◌≤◌, Bool, true, false, List, [], ◌++◌, drop, length, take, Some, IsSomeAnd, slice_get, Result, Ok, Err, map}
use Rattle.ppd_ast.specs.Valid.{IsValid}
use Rattle.ppd_ast.specs.ValidPlan.{IsValidPlan}
use Rattle.ppd_ast.specs.declared.limits.TheConstants.{MOST_BUDGET}
use Rattle.ppd_sem.specs.declared.proc.Need.{Need}
use Rattle.ppd_sem.specs.declared.proc.Need.TheVariants.{Budget}
use Rattle.ppd_model.specs.declared.closed.Closed.{Closed}
use Rattle.ppd_model.specs.declared.trace.DriveError.{DriveError}
use Rattle.ppd_model.specs.declared.trace.DriveError.TheVariants.{NotEnabled, Memory}
use Rattle.ppd_model.specs.Costs.{HasWholePrelogs, values_in}
use Rattle.ppd_model.specs.Laws.{logged_moment}
use Rattle.ppd_model.specs.declared.state.Logging.{Logging}
use Rattle.ppd_model.specs.Logs.{closed_log, ends_from, log_step, loggings}
use Rattle.ppd_model.specs.Schedule.{run, started_world}
use Rattle.ppd_model.specs.World.{World, change, enabled, need, step}

-- what runs, the world that it came to, and each process with its log
pub record Running : Type 0 where
  pub setting : Setting
  pub world : World
  pub loggings : List Logging

-- before the first step
abbrev pub begun : Setting → Running
begun setting = record {
  setting = setting;
  world = started_world setting;
  loggings = loggings setting [];
}

-- process p takes its step, which adds its entries to its log
abbrev pub stepped : Running → ℕ → Running
stepped r p = record r {
  world = step r.setting.program r.setting.plan r.world p;
  loggings = change (λ l. log_step r.setting.program r.setting.plan l
      (logged_moment r.setting.program r.setting.plan r.world p)) p r.loggings;
}

-- what is left when nobody can take a step
abbrev pub closed_run : Running → Closed
closed_run r = record {
  logs = record { lists = map closed_log r.loggings };
  ends = ends_from r.setting.program r.setting.program.functions r.loggings;
}

-- the world and the logs are those of this schedule
pub record IsOf (h : List ℕ) (r : Running) : Type 0 where
  pub runs : run r.setting h ≡ Some r.world
  pub logs : r.loggings ≡ loggings r.setting h

-- the world and the logs are those of some schedule of a valid program with a valid plan
pub record IsReached (r : Running) : Type 0 where
  pub program : IsValid r.setting.program
  pub plan : IsValidPlan r.setting.program r.setting.plan
  pub budget : r.setting.budget ≤ MOST_BUDGET
  pub schedule : List ℕ
  pub comes : IsOf schedule r

-- so it is in the run of this setting, and the schedule is this one
pub record IsHeld (setting : Setting) (r : Running) (h : List ℕ) : Type 0 where
  pub is_setting : r.setting ≡ setting
  pub comes : IsOf h r
  pub reached : IsReached r

-- process p can take a step
abbrev pub can_step : Running → ℕ → Bool
can_step r p = enabled r.setting.program r.setting.plan r.world p

-- process p can take a step, and none below it
pub record IsLowest (r : Running) (p : ℕ) : Type 0 where
  pub can : can_step r p ≡ true
  pub first : (q : ℕ) → q < p → can_step r q ≡ false

-- from the first to the second world the steps of this schedule were taken, each by an enabled process
pub record Takes (before : Running) (h : List ℕ) (after : Running) : Type 0 where
  pub setting : after.setting ≡ before.setting
  pub comes : (g : List ℕ) → IsOf g before → IsOf (g ++ h) after

-- a process's log before and after a step of this need: the cost spent rose by 1 and by the values of the entries
-- that the log grew by, within the budget; for a stop for the budget it did not rise
pub record HasPaid (budget : ℕ) (n : Need) (before after : Logging) : Type 0 where
  pub cost : n ≢ Budget
      → after.proc.spent ≡ before.proc.spent + (1 + values_in (drop (length before.entries) after.entries))
  pub within : n ≢ Budget → after.proc.spent ≤ budget
  pub free : n ≡ Budget → after.proc.spent ≡ before.proc.spent

-- so it is with process p, where the plan lists all parameters of its functions' blocks
abbrev pub IsPaidStep : Running → ℕ → Running → Type 0
IsPaidStep before p after =
    HasWholePrelogs before.setting.program before.setting.plan → (l k : Logging) → slice_get before.loggings p ≡ Some l
    → slice_get after.loggings p ≡ Some k
    → HasPaid before.setting.budget (need before.setting.program before.setting.plan before.world p) l k

-- process p, which was enabled, took its step
pub record IsFollowed (before : Running) (p : ℕ) (after : Running) : Type 0 where
  pub enabled : can_step before p ≡ true
  pub stepped_to : after ≡ stepped before p

-- number n of a schedule, which is p, names no enabled process; or it names one, and memory is wanting
abbrev pub IsCause : Running → (p n : ℕ) → DriveError → Type 0
IsCause r p n (NotEnabled k) = (k ≡ n) × (can_step r p ≡ false)
IsCause r p n Memory = can_step r p ≡ true

-- how far a schedule was taken: whole; or up to its first number that names no enabled process; or, for want of
-- memory, up to some number that names an enabled one
abbrev pub IsDriven : Running → List ℕ → Running → Result (Unit {0}) DriveError → Type 0
IsDriven before h after (Ok u) = Takes before h after
IsDriven before h after (Err (NotEnabled n)) =
    Takes before (take n h) after × IsSomeAnd (slice_get h n) (λ p. can_step after p ≡ false)
IsDriven before h after (Err Memory) =
    (n : ℕ) × Takes before (take n h) after × IsSomeAnd (slice_get h n) (λ p. can_step after p ≡ true)
