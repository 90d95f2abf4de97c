-- What each process did in a schedule: its steps, each with what it needed and was given.
use Rattle.ppd_model.specs.Setting.{Setting}
use Rattle.std.specs.Prelude.{ℕ, ◌+◌, ℤ, pos, List, [], ◌∷◌, ◌++◌, map, fold, length, get_or, slice_get, slice_set, count_by, Option, Some, None, option_map}
use Rattle.std.specs.Option.{option_map_or}
use Rattle.ppd_ast.specs.declared.program.Program.{Program}
use Rattle.ppd_ast.specs.declared.plan.Plan.{Plan}
use Rattle.ppd_sem.specs.declared.proc.Need.{Need}
use Rattle.ppd_sem.specs.declared.proc.Need.TheVariants.{Read, Write, Enter, Leave, Invoke, Back, P, V, Send, Offer, Done, Recv}
use Rattle.ppd_sem.specs.Described.{is_event}
use Rattle.ppd_model.specs.declared.trace.EventId.{EventId}
pub use Rattle.ppd_model.specs.declared.tracing.Story.{Story}
pub use Rattle.ppd_model.specs.declared.tracing.Taken.{Taken}
use Rattle.ppd_model.specs.World.{World, Counts, Channel, need, answer, step, change}
use Rattle.ppd_model.specs.Schedule.{started_world}

-- a step with the values of the unit that it starts, as they stand after it
pub record Moment : Type 0 where
  pub taken : Taken
  pub unit_values : List ℤ

-- a world with the event that last wrote each shared cell, and what each process did
pub record Telling : Type 0 where
  pub world : World
  pub writers : List (Option EventId)
  pub moments : List (List Moment)

-- ---- one step

-- the steps without the values of units
abbrev pub steps_of : List Moment → List Taken
steps_of moments = map (λ m. m.taken) moments

-- the next event of process p
abbrev pub next_event : Telling → ℕ → EventId
next_event t p = record { process = p; number = count_by (λ m. is_event m.taken.need) (get_or t.moments p []) }

-- the number that a synchronization takes: the new count of its kind and object
abbrev pub number_of : World → Need → Option ℕ
number_of w (P s u) = option_map (λ (x : Counts). x.taken + 1) (slice_get w.sems s)
number_of w (V s u) = option_map (λ (x : Counts). x.given + 1) (slice_get w.sems s)
number_of w (Send c v u) = option_map (λ (x : Channel). length x.sent + 1) (slice_get w.chans c)
number_of w (Offer c v) = option_map (λ (x : Channel). length x.sent + 1) (slice_get w.chans c)
number_of w (Done c u) = option_map (λ (x : Channel). x.completed + 1) (slice_get w.chans c)
number_of w (Recv c u) = option_map (λ (x : Channel). x.received + 1) (slice_get w.chans c)
number_of w need = None

-- the event that last wrote the cell of a read
abbrev pub writer_of : Telling → Need → Option EventId
writer_of t (Read c) = get_or t.writers c None
writer_of t need = None

-- the unit that a step of this need starts
abbrev pub unit_started : Need → Option ℕ
unit_started (Enter b u) = Some u
unit_started (Leave b u) = Some u
unit_started (Invoke b u) = Some u
unit_started (Back b u) = u
unit_started (P s u) = Some u
unit_started (V s u) = Some u
unit_started (Send c v u) = Some u
unit_started (Done c u) = Some u
unit_started (Recv c u) = Some u
unit_started need = None

-- the values of a unit's cells
abbrev pub values_of_unit : Plan → List ℤ → ℕ → List ℤ
values_of_unit plan shared u =
    map (λ c. get_or shared c (pos 0)) (option_map_or (λ u. u.cells) (slice_get plan.units u) [])

-- the next step of process p, with the values of its unit as they stand after it
abbrev pub moment_of : Program → Plan → Telling → ℕ → Moment
moment_of program plan t p =
    let n = need program plan t.world p in
    record {
      taken = record { need = n; answer = answer t.world n; writer = writer_of t n; number = number_of t.world n };
      unit_values = option_map_or (values_of_unit plan (step program plan t.world p).shared) (unit_started n) [];
    }

-- a write is by the event that its step is
abbrev pub writers_after : Telling → ℕ → Need → List (Option EventId)
writers_after t p (Write c v) = slice_set t.writers c (Some (next_event t p))
writers_after t p need = t.writers

-- process p takes its step
abbrev pub tell : Program → Plan → Telling → ℕ → Telling
tell program plan t p = record {
  world = step program plan t.world p;
  writers = writers_after t p (need program plan t.world p);
  moments = change (λ ms. ms ++ moment_of program plan t p ∷ []) p t.moments;
}

-- ---- schedules

-- before the first step nothing is written and nothing was done
abbrev pub begun : World → Telling
begun w = record { world = w; writers = map (λ _. None) w.shared; moments = map (λ _. []) w.procs }

-- what is told of a schedule from the start
abbrev pub told : Setting → List ℕ → Telling
told setting h = fold (tell setting.program setting.plan) (begun (started_world setting)) h

-- the story of a schedule: what is told, without the values of units
abbrev pub story : Setting → List ℕ → Story
story setting h =
    let t = told setting h in
    record { steps = map steps_of t.moments; cells = t.world.shared; writers = t.writers }
