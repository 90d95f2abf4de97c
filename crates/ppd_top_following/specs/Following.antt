-- What a run by a schedule that is handed in comes to.
use Rattle.law_steps.specs.Policies.{setting_by}
use Rattle.ppd_ast.specs.declared.program.Program.{Program}
use Rattle.ppd_blocks.specs.Blocks.{plan_of}
use Rattle.ppd_check.specs.Read.{IsRead, IsRefused}
use Rattle.ppd_check.specs.declared.error.SourceError.TheVariants as source
use Rattle.ppd_model.specs.Logs.{close}
use Rattle.ppd_model.specs.Schedule.{run as run_of}
use Rattle.ppd_model.specs.World.{World, enabled}
use Rattle.ppd_model.specs.declared.closed.Closed.{Closed}
use Rattle.ppd_model.specs.declared.trace.DriveError.{DriveError}
use Rattle.ppd_model.specs.declared.trace.DriveError.TheVariants as drive
use Rattle.ppd_top.specs.Top.{IsOfAgreeing, out_of}
use Rattle.ppd_top_commands.specs.Commands.{IsWholeRun}
use Rattle.ppd_top_commands.specs.Output.{output}
use Rattle.ppd_top_following.specs.declared.following.FollowError.{FollowError}
use Rattle.ppd_top_following.specs.declared.following.FollowError.TheVariants.{LongLine, ManyLines, Memory, NotEnabled, NotWhole, Refused}
use Rattle.ppd_top_requests.specs.declared.options.Options.{Options}
use Rattle.std.specs.Prelude.{List, Some, false, slice_get, take, true, ℕ, ◌≡◌, ◌≢◌}

-- ---- a run by a schedule that is handed in

-- the text of a source's run by this schedule, and of these commands
pub record Follows (bytes : List ℕ) (options : Options) (commands schedule : List ℕ) (text : List ℕ) : Type 0 where
  pub program : Program
  pub accepted : IsRead bytes program
  pub whole : IsWholeRun program options schedule
  pub is : out_of program options schedule commands ≡ output 0 text
  pub agreeing : IsOfAgreeing program options schedule commands (output 0 text)

-- number n of the schedule, the first such, names no process that can take a step
pub record IsStuckAt (program : Program) (options : Options) (schedule : List ℕ) (n : ℕ) : Type 0 where
  pub world : World
  pub runs : run_of (setting_by program options.policy options.budget) (take n schedule) ≡ Some world
  pub process : ℕ
  pub next : slice_get schedule n ≡ Some process
  pub stuck : enabled program (plan_of program options.policy) world process ≡ false

-- the schedule can be taken, and some process can take a step after it
pub record IsUnfinished (program : Program) (options : Options) (schedule : List ℕ) : Type 0 where
  pub world : World
  pub runs : run_of (setting_by program options.policy options.budget) schedule ≡ Some world
  pub process : ℕ
  pub next : enabled program (plan_of program options.policy) world process ≡ true

-- the schedule is whole, and its output ends with this status
pub record EndsWith (program : Program) (options : Options) (commands schedule : List ℕ) (status : ℕ) : Type 0 where
  pub whole : IsWholeRun program options schedule
  pub is : (out_of program options schedule commands).status ≡ status
  pub agreeing : IsOfAgreeing program options schedule commands (out_of program options schedule commands)

-- why there is no text: a refused source comes first, then what the schedule lacks, then the lines
abbrev pub FollowFails : List ℕ → Options → (commands schedule : List ℕ) → FollowError → Type 0
FollowFails bytes options commands schedule (Refused error) = (error ≢ source.Memory) × IsRefused bytes error
FollowFails bytes options commands schedule (NotEnabled n) = (program : Program) × IsRead bytes program
    × IsStuckAt program options schedule n
FollowFails bytes options commands schedule NotWhole = (program : Program) × IsRead bytes program
    × IsUnfinished program options schedule
FollowFails bytes options commands schedule LongLine = (program : Program) × IsRead bytes program
    × EndsWith program options commands schedule 7
FollowFails bytes options commands schedule ManyLines = (program : Program) × IsRead bytes program
    × EndsWith program options commands schedule 8
FollowFails bytes options commands schedule Memory = Unit {0}

-- ---- of a program

-- the text of a whole schedule and of these commands
pub record RanTo (program : Program) (options : Options) (commands schedule text : List ℕ) : Type 0 where
  pub whole : IsWholeRun program options schedule
  pub is : out_of program options schedule commands ≡ output 0 text

-- a whole schedule, and what it leaves
pub record IsClosed (program : Program) (options : Options) (schedule : List ℕ) (closed : Closed) : Type 0 where
  pub whole : IsWholeRun program options schedule
  pub is : closed ≡ close (setting_by program options.policy options.budget) schedule

-- why a schedule cannot be taken to a whole run
abbrev pub StopsAt : Program → Options → List ℕ → FollowError → Type 0
StopsAt program options schedule (Refused error) = ⊥
StopsAt program options schedule (NotEnabled n) = IsStuckAt program options schedule n
StopsAt program options schedule NotWhole = IsUnfinished program options schedule
StopsAt program options schedule LongLine = ⊥
StopsAt program options schedule ManyLines = ⊥
StopsAt program options schedule Memory = Unit {0}

-- why answers that end with this status are no text
abbrev pub FailsBy : ℕ → FollowError → Type 0
FailsBy status (Refused error) = ⊥
FailsBy status (NotEnabled n) = ⊥
FailsBy status NotWhole = ⊥
FailsBy status LongLine = status ≡ 7
FailsBy status ManyLines = status ≡ 8
FailsBy status Memory = Unit {0}

-- why the schedule gives a program no text
abbrev pub ScheduleFails : Program → Options → (commands schedule : List ℕ) → FollowError → Type 0
ScheduleFails program options commands schedule (Refused error) = ⊥
ScheduleFails program options commands schedule (NotEnabled n) = IsStuckAt program options schedule n
ScheduleFails program options commands schedule NotWhole = IsUnfinished program options schedule
ScheduleFails program options commands schedule LongLine = EndsWith program options commands schedule 7
ScheduleFails program options commands schedule ManyLines = EndsWith program options commands schedule 8
ScheduleFails program options commands schedule Memory = Unit {0}

-- why a schedule was not taken
abbrev pub drive_error : DriveError → FollowError
drive_error (drive.NotEnabled n) = NotEnabled n
drive_error drive.Memory = Memory
