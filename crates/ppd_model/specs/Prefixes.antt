-- What is told of the first steps of a schedule, and what holds after each of them.
use Rattle.ppd_model.specs.Setting.{Setting}
use Rattle.std.specs.Prelude.{◌≡◌, ℕ, suc, ◌-◌, ◌<◌, true, List, length, map, fold, get_or, take, slice_get, Option, Some, None}
use Rattle.ppd_ast.specs.declared.program.Program.{Program}
use Rattle.ppd_sem.specs.Tables.{capacity_of}
use Rattle.ppd_model.specs.World.{World, Channel, enabled}
use Rattle.ppd_model.specs.Schedule.{run}
use Rattle.ppd_model.specs.Story.{Telling, steps_of, tell, told}
use Rattle.ppd_model.specs.States.{states_from}
use Rattle.ppd_model.specs.Laws.{begins}

-- what is told of the first i steps
abbrev pub told_to : Setting → List ℕ → ℕ → Telling
told_to setting h i = fold (tell setting.program setting.plan) (begins setting) (take i h)

-- the capacity of a channel that is there
abbrev pub channel_capacity : Option Channel → ℕ
channel_capacity None = 0
channel_capacity (Some c) = c.capacity

-- a world has the objects of its program: its shared cells, each with a writer, its semaphores, its
-- channels with their capacities, and its processes
pub record Sizes (program : Program) (t : Telling) : Type 0 where
  pub cells : length t.world.shared ≡ length program.starts
  pub writers : length t.writers ≡ length program.starts
  pub sems : length t.world.sems ≡ length program.sems
  pub chans : length t.world.chans ≡ length program.chans
  pub capacities : (c : ℕ) → channel_capacity (slice_get t.world.chans c) ≡ capacity_of program c
  pub processes : length t.world.procs ≡ length program.bodies - program.functions

-- so it is after each schedule
abbrev pub ObjectsStay : Type 0
ObjectsStay = (setting : Setting) (h : List ℕ) → Sizes setting.program (told setting h)

-- and its processes are where their steps lead
pub record Good (setting : Setting) (t : Telling) : Type 0 where
  pub sizes : Sizes setting.program t
  pub procs : t.world.procs ≡ states_from setting 0 (map steps_of t.moments)

-- step i of a schedule is of an enabled process, and leads from what is told of i steps to what is told of one more
pub record IsStepAt (setting : Setting) (h : List ℕ) (i : ℕ) : Type 0 where
  pub enables : enabled setting.program setting.plan (told_to setting h i).world (get_or h i 0) ≡ true
  pub tells : told_to setting h (suc i) ≡ tell setting.program setting.plan (told_to setting h i) (get_or h i 0)

-- so it is with each step of a schedule that can be taken
abbrev pub SchedulesGoByPrefixes : Type 0
SchedulesGoByPrefixes =
    (setting : Setting) (h : List ℕ) (w : World) → run setting h ≡ Some w
    → (i : ℕ) → i < length h → IsStepAt setting h i
