-- What the search for shared cells finds is what the run did.
use Rattle.ppd_model.specs.Setting.{Setting}
use Rattle.std.specs.Prelude.{◌≡◌, ℕ, ◌<◌, List, [], map, length, slice_get, Some, Ok}
use Rattle.ppd_model.specs.declared.flow.Origin.TheVariants as origin
use Rattle.std.specs.Option.{option_map_or}
use Rattle.ppd_ast.specs.Valid.{IsValid}
use Rattle.ppd_ast.specs.Lookups.{kind_of}
use Rattle.ppd_sem.specs.declared.event.Access.{Access}
use Rattle.ppd_sem.specs.declared.event.Spot.TheVariants.{Shared}
use Rattle.ppd_model.specs.declared.trace.TracedEvent.{TracedEvent}
use Rattle.ppd_model.specs.FlowbackEdges.{last, part_at, sync_edges as model_sync_edges}
use Rattle.ppd_model.specs.FullTrace.{Tag}
use Rattle.ppd_model.specs.Intervals.{own, Split, splits, ref}
use Rattle.ppd_model.specs.Logs.{closed_logs}
use Rattle.ppd_model.specs.Races.{races}
use Rattle.ppd_model.specs.Schedule.{run}
use Rattle.ppd_model.specs.Story.{story}
use Rattle.ppd_model.specs.World.{World}
use Rattle.ppd_graph.specs.Found.{sync_edges}
use Rattle.ppd_graph.specs.Seen.{Seen, seen_of}
use Rattle.ppd_graph.specs.Shared.{found_last, shared_origin}

-- what is there to be seen of the processes of a schedule
abbrev pub all_seen : Setting → List ℕ → List Seen
all_seen setting h = map (λ x. seen_of x) (splits setting (story setting h))

-- event n of process p, at place j of its interval k, reads shared cell c as its read i, which is tagged so
pub record IsSharedRead (setting : Setting) (h : List ℕ) (p k j c : ℕ)
    (tag : Tag) : Type 0 where
  pub split : Split
  pub there : slice_get (splits setting (story setting h)) p ≡ Some split
  pub number : ℕ
  pub placed : part_at split k j ≡ Some (own number)
  pub event : TracedEvent
  pub event_is : slice_get split.trace.events number ≡ Some event
  pub read : ℕ
  pub access : Access
  pub access_is : slice_get event.event.reads read ≡ Some access
  pub spot : access.spot ≡ Shared c
  pub tagged : slice_get event.writers read ≡ Some tag

-- in each run of a valid program without a race, whatever its plan, the search finds for each shared read of an
-- event where the event that its tag names is an item, and the start where there is none
abbrev pub SharedOriginsAreFound : Type 0
SharedOriginsAreFound =
    (setting : Setting) (h : List ℕ) (w : World) → IsValid setting.program
    → run setting h ≡ Some w → races setting h ≡ []
    → (p k j c : ℕ) (tag : Tag) → IsSharedRead setting h p k j c tag
    → (shared_origin setting.program (closed_logs setting h) (all_seen setting h) p k j c).found
    ≡ Ok (option_map_or (ref (splits setting (story setting h))) tag origin.Initial)

-- and the last value of each shared cell with the place of its last write
abbrev pub LastWritesAreFound : Type 0
LastWritesAreFound =
    (setting : Setting) (h : List ℕ) (w : World) → IsValid setting.program
    → run setting h ≡ Some w → races setting h ≡ []
    → (c : ℕ) → c < length setting.program.starts
    → (found_last setting.program (closed_logs setting h) (all_seen setting h) c).found
    ≡ Ok (last setting (story setting h) c)

-- in each schedule of a valid program, with or without a race, the search finds the pair of each event that is a
-- synchronization, and the start for a `P` that has none; of another event there is nothing to find
abbrev pub PairsAreFound : Type 0
PairsAreFound =
    (setting : Setting) (h : List ℕ) → IsValid setting.program
    → (p k j : ℕ) (x : Split) (n : ℕ) (e : TracedEvent)
    → slice_get (splits setting (story setting h)) p ≡ Some x
    → part_at x k j ≡ Some (own n) → slice_get x.trace.events n ≡ Some e
    → (sync_edges setting.program (closed_logs setting h) (all_seen setting h) p k j
    e.event.number).found
    ≡ model_sync_edges (splits setting (story setting h))
    (kind_of setting.program e.event.stmt) e.paired
