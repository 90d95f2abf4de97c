-- The answers of telling and of tracing a schedule.
use Rattle.ppd_model.specs.Setting.{Setting}
use Rattle.ppd_model.specs.Agreement.{Agree}
use Rattle.ppd_model.specs.FullTrace.{full_trace}
use Rattle.ppd_model.specs.LocalTags.{AreOwn}
use Rattle.ppd_model.specs.Races.{races}
use Rattle.ppd_model.specs.Schedule.{run}
use Rattle.ppd_model.specs.Story.{story}
use Rattle.ppd_model.specs.World.{World, enabled}
use Rattle.ppd_model.specs.declared.trace.DriveError.{DriveError}
use Rattle.ppd_model.specs.declared.trace.DriveError.TheVariants.{Memory, NotEnabled}
use Rattle.ppd_model.specs.declared.trace.Trace.{Trace}
use Rattle.ppd_model.specs.declared.tracing.Story.{Story}
use Rattle.ppd_sem.specs.Process.{started}
use Rattle.std.specs.List.{All}
use Rattle.std.specs.Prelude.{Err, IsSomeAnd, List, Ok, Result, Some, [], false, get_or, length, slice_get, take, ℕ, ⊤, ◌+◌, ◌<◌, ◌^◌, ◌≡◌, ◌≤◌}

-- each number of the schedule names a process that is enabled in its turn
pub record CanBeTaken (setting : Setting) (h : List ℕ) : Type 0 where
  pub last : World
  pub runs : run setting h ≡ Some last

-- the schedule can be taken up to number n, which is there and names no process that is enabled then
pub record IsStuckAt (setting : Setting) (h : List ℕ) (n : ℕ) : Type 0 where
  pub last : World
  pub runs : run setting (take n h) ≡ Some last
  pub refused : IsSomeAnd (slice_get h n) (λ p. enabled setting.program setting.plan last p ≡ false)

-- why there is no story and no trace
abbrev pub IsRefused : Setting → List ℕ → DriveError → Type 0
IsRefused setting h (NotEnabled n) = IsStuckAt setting h n
IsRefused setting h Memory = ⊤

-- the story of a schedule that can be taken, or why there is none
abbrev pub IsStoryOf : Setting → List ℕ → Result Story DriveError → Type 0
IsStoryOf setting h (Ok s) = CanBeTaken setting h × (s ≡ story setting h)
IsStoryOf setting h (Err e) = IsRefused setting h e

-- the full trace of a schedule that can be taken, or why there is none
abbrev pub IsTraceOf : Setting → List ℕ → Result Trace DriveError → Type 0
IsTraceOf setting h (Ok t) =
    CanBeTaken setting h × (t ≡ full_trace setting (story setting h))
IsTraceOf setting h (Err e) = IsRefused setting h e

-- where the schedule has no race, the trace is that of each schedule that agrees with it, which has its story
abbrev pub IsTraceOfAgreeing : Setting → List ℕ → Result Trace DriveError → Type 0
IsTraceOfAgreeing setting h (Ok t) =
    (h' : List ℕ) → Agree setting h h' → races setting h ≡ []
    → (story setting h' ≡ story setting h)
    × (t ≡ full_trace setting (story setting h'))
IsTraceOfAgreeing setting h (Err e) = ⊤

-- the steps of each process are its own, and few enough for 32 bits, and the processes those of the program
pub record IsTraceable (setting : Setting) (s : Story) : Type 0 where
  pub own : (p : ℕ) → AreOwn setting.program setting.plan (started setting.program setting.plan p setting.budget)
      (get_or s.steps p [])
  pub few : All (λ steps. length steps < 2 ^ 32) s.steps
  pub processes : setting.program.functions + length s.steps ≤ length setting.program.bodies
  pub range : setting.program.functions + length s.steps < 2 ^ 16
  pub count : length s.steps ≤ 2 ^ 8
