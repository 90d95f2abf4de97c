-- That the items of a run, joined and linked, are its full trace.
use Rattle.ppd_model.specs.Setting.{Setting}
use Rattle.std.specs.Prelude.{◌≡◌, ℕ, List, [], map, slice_get, Some}
use Rattle.ppd_ast.specs.Valid.{IsValid}
use Rattle.ppd_sem.specs.declared.event.Event.{Event}
use Rattle.ppd_sem.specs.Process.{started}
use Rattle.ppd_model.specs.declared.trace.TracedEvent.{TracedEvent}
use Rattle.ppd_model.specs.declared.tracing.Story.{Story}
use Rattle.ppd_model.specs.declared.tracing.Taken.{Taken}
use Rattle.ppd_model.specs.FullTrace.{tracing_of, full_trace}
use Rattle.ppd_model.specs.Intervals.{Split, splits}
use Rattle.ppd_model.specs.LocalTags.{AreOwn}
use Rattle.ppd_model.specs.Logs.{closed_logs}
use Rattle.ppd_model.specs.Races.{races}
use Rattle.ppd_model.specs.Schedule.{run}
use Rattle.ppd_model.specs.Story.{story}
use Rattle.ppd_model.specs.World.{World}
use Rattle.ppd_graph.specs.Seen.{seen_of}
use Rattle.law_flow.specs.Edges.SharedEdges.{all_seen}
use Rattle.law_flow.specs.Following.{AreFollowed, begun}
use Rattle.law_flow.specs.Joined.{events_in}
use Rattle.law_flow.specs.Linked.{joined_trace}

-- the events of a trace, without what they came from
abbrev pub bare : List TracedEvent → List Event
bare es = map (λ e. e.event) es

-- ---- one process

-- in every schedule of a valid program, whole or not, racy or not: the items of a process, joined, are its events
abbrev pub JoinedAreEvents : Type 0
JoinedAreEvents =
    (setting : Setting) (h : List ℕ) (p : ℕ) (x : Split) → IsValid setting.program
    → slice_get (splits setting (story setting h)) p ≡ Some x
    → events_in (seen_of x) ≡ bare x.trace.events

-- the control parents and the writers of local reads of a process's own steps follow from the events before them
abbrev pub TracesAreFollowed : Type 0
TracesAreFollowed =
    (setting : Setting) (story : Story) (p : ℕ) (steps : List Taken)
    → AreOwn setting.program setting.plan (started setting.program setting.plan p setting.budget) steps
    → AreFollowed setting.program p (begun setting.program p) (tracing_of setting story p steps).events

-- ---- all processes

-- in each run of a valid program without a race the items of all processes, joined and linked, are the full trace
abbrev pub JoinedTraceIsFull : Type 0
JoinedTraceIsFull =
    (setting : Setting) (h : List ℕ) (w : World) → IsValid setting.program
    → run setting h ≡ Some w → races setting h ≡ []
    → joined_trace setting.program (closed_logs setting h) (all_seen setting h)
    ≡ full_trace setting (story setting h)
