-- The whole trace: the events of the items of all intervals, joined, and the tags that follow them.
use Rattle.ppd_model.specs.Setting.{Setting}
use Rattle.std.specs.Prelude.{ℕ, List, fold, map, ◌≡◌, slice_get, Some, [], take}
use Rattle.ppd_ast.specs.Valid.{IsValid}
use Rattle.ppd_sem.specs.declared.event.Event.{Event}
use Rattle.ppd_sem.specs.declared.event.Access.{Access}
use Rattle.ppd_sem.specs.declared.event.Spot.TheVariants.{Shared}
use Rattle.ppd_model.specs.Intervals.{splits, Split}
use Rattle.ppd_model.specs.Story.{story}
use Rattle.ppd_model.specs.declared.trace.TracedEvent.{TracedEvent}
use Rattle.ppd_model.specs.FullTrace.{Tag}
use Rattle.ppd_model.specs.Logs.{closed_logs}
use Rattle.ppd_model.specs.Races.{races}
use Rattle.ppd_model.specs.Schedule.{run}
use Rattle.ppd_model.specs.World.{World}
use Rattle.law_flow.specs.Following.{edge_past}
use Rattle.law_flow.specs.JoinedLaws.{bare}
use Rattle.law_flow.specs.Writers.{marks_of, shared_writer}
use Rattle.law_flow.specs.Linked.{pair_of}

-- the edge in which the event after these lies
abbrev pub edge_after : List Event → ℕ
edge_after es = fold (λ i e. edge_past i e.number) 0 es

-- the events of all processes of a schedule
abbrev pub all_events : Setting → List ℕ → List (List Event)
all_events setting h = map (λ x. bare x.trace.events) (splits setting (story setting h))

-- event n of process p reads shared cell c as its read i, which is tagged so
pub record IsSharedRead (x : Split) (n i c : ℕ) (tag : Tag) : Type 0 where
  pub event : TracedEvent
  pub event_is : slice_get x.trace.events n ≡ Some event
  pub access : Access
  pub access_is : slice_get event.event.reads i ≡ Some access
  pub spot : access.spot ≡ Shared c
  pub tagged : slice_get event.writers i ≡ Some tag

-- in each run of a valid program without a race the tag of a shared read is found by edges
abbrev pub SharedTagsAreLinked : Type 0
SharedTagsAreLinked =
    (setting : Setting) (h : List ℕ) (w : World) → IsValid setting.program
    → run setting h ≡ Some w → races setting h ≡ []
    → (p n i c : ℕ) (x : Split) (tag : Tag) → slice_get (splits setting (story setting h)) p ≡ Some x
    → IsSharedRead x n i c tag
    → shared_writer setting.program (closed_logs setting h) (all_events setting h) p
    (edge_after (take n (bare x.trace.events))) c (marks_of c (take n (bare x.trace.events)))
    ≡ tag

-- in each schedule of a valid program the pair of an event is found by the numbers of synchronizations
abbrev pub PairsAreLinked : Type 0
PairsAreLinked =
    (setting : Setting) (h : List ℕ) → IsValid setting.program
    → (p n : ℕ) (x : Split) (e : TracedEvent) → slice_get (splits setting (story setting h)) p ≡ Some x
    → slice_get x.trace.events n ≡ Some e
    → pair_of setting.program (closed_logs setting h) (all_events setting h) p
    (edge_after (take n (bare x.trace.events))) e.event.number
    ≡ e.paired
