-- A world with what is told of it: the events so far, the last writers and the steps.
use Rattle.ppd_model.specs.Setting.{Setting}
use Rattle.std.specs.Prelude.{◌≡◌, ℕ, ◌+◌, List, [], ◌∷◌, ◌++◌, map, get_or, slice_set, Some, None, if◌then◌else◌, count_by}
use Rattle.ppd_sem.specs.declared.proc.Need.{Need}
use Rattle.ppd_sem.specs.declared.proc.Need.TheVariants.{Read, Write}
use Rattle.ppd_sem.specs.Described.{is_event}
use Rattle.ppd_model.specs.declared.tracing.Taken.{Taken}
use Rattle.ppd_model.specs.declared.trace.EventId.{EventId}
use Rattle.ppd_model.specs.FullTrace.{Tag}
use Rattle.ppd_model.specs.Laws.{logged_moment}
use Rattle.ppd_model.specs.Logs.{loggings}
use Rattle.ppd_model.specs.Schedule.{run}
use Rattle.ppd_model.specs.Story.{steps_of, told}
use Rattle.ppd_model.specs.World.{change}
use Rattle.ppd_world.specs.Running.{Running, stepped}

-- the counts with one more event of process p, where the step is one
abbrev pub counts_after : List ℕ → ℕ → Need → List ℕ
counts_after counts p n = if is_event n then slice_set counts p (get_or counts p 0 + 1) else counts

-- the last writers after a step of this need by this event
abbrev pub writers_set : List Tag → EventId → Need → List Tag
writers_set writers e (Write c v) = slice_set writers c (Some e)
writers_set writers e need = writers

-- the event that last wrote the cell of a Read
abbrev pub writer_in : List Tag → Need → Tag
writer_in writers (Read c) = get_or writers c None
writer_in writers need = None

-- a step with the event that last wrote the cell of a Read
abbrev pub with_writer : List Tag → Taken → Taken
with_writer writers x =
    record { need = x.need; answer = x.answer; writer = writer_in writers x.need; number = x.number }

-- the next event of process p
abbrev pub next_of : List ℕ → ℕ → EventId
next_of counts p = record { process = p; number = get_or counts p 0 }

-- the next step of process p
abbrev pub next_taken : Running → List Tag → ℕ → Taken
next_taken r writers p = with_writer writers (logged_moment r.setting.program r.setting.plan r.world p).taken

-- a world, the counts of events, the last writers and the steps, after the next step of process p
pub record HasTold (r : Running) (counts : List ℕ) (writers : List Tag) (steps : List (List Taken)) (p : ℕ)
    (r' : Running) (counts' : List ℕ) (writers' : List Tag) (steps' : List (List Taken)) : Type 0 where
  pub world : r' ≡ stepped r p
  pub counted : counts' ≡ counts_after counts p (next_taken r writers p).need
  pub written : writers' ≡ writers_set writers (next_of counts p) (next_taken r writers p).need
  pub added : steps' ≡ change (λ xs. xs ++ next_taken r writers p ∷ []) p steps

-- the world to which a schedule comes
abbrev pub after : Setting → List ℕ → Running
after setting h = record {
  setting = setting;
  world = (told setting h).world;
  loggings = loggings setting h;
}

-- the schedule was taken, and the world, the counts of events, the last writers and the steps are those that are told
-- of it
pub record Tells (setting : Setting) (h : List ℕ) (r : Running) (counts : List ℕ)
    (writers : List Tag) (steps : List (List Taken)) : Type 0 where
  pub runs : run setting h ≡ Some (told setting h).world
  pub world : r ≡ after setting h
  pub counted : counts ≡ map (λ ms. count_by (λ m. is_event m.taken.need) ms) (told setting h).moments
  pub written : writers ≡ (told setting h).writers
  pub added : steps ≡ map steps_of (told setting h).moments
