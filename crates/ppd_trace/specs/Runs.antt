-- What is kept of a trace while it is made.
use Rattle.ppd_activations.specs.Runs.{begun_run, called, parent_of, run_of, tagged, tagged_into, top_tags, with_test}
use Rattle.ppd_activations.specs.declared.runs.Run.{Run}
use Rattle.ppd_ast.specs.declared.plan.Plan.{Plan}
use Rattle.ppd_ast.specs.declared.program.Program.{Program}
use Rattle.ppd_model.specs.FullTrace.{Tag, event_of, tags_of}
use Rattle.ppd_model.specs.Synchronizations.{leading_from, sync_of}
use Rattle.ppd_model.specs.declared.trace.EventId.{EventId}
use Rattle.ppd_model.specs.declared.trace.TracedEvent.{TracedEvent}
use Rattle.ppd_model.specs.declared.tracing.Story.{Story}
use Rattle.ppd_model.specs.declared.tracing.Taken.{Taken}
use Rattle.ppd_model.specs.declared.tracing.Tracing.{Tracing}
use Rattle.ppd_sem.specs.Deed.{Deed, back, clear, invoke, receive, set_local}
use Rattle.ppd_sem.specs.Described.{is_event}
use Rattle.ppd_sem.specs.Passed.{arguments_at, deed_at}
use Rattle.ppd_sem.specs.Process.{act, into_at, top_frame}
use Rattle.ppd_sem.specs.declared.event.Event.{Event}
use Rattle.ppd_sem.specs.declared.proc.Need.{Need}
use Rattle.ppd_sem.specs.declared.proc.Need.TheVariants.{Trap}
use Rattle.ppd_sem.specs.declared.proc.Proc.{Proc}
use Rattle.ppd_sem.specs.declared.proc.Todo.{Todo}
use Rattle.ppd_trace.specs.Tagging.{answers_by}
use Rattle.ppd_trace.specs.declared.tracer.Tracer.{Tracer}
use Rattle.std.specs.Prelude.{List, None, Option, Some, [], drop, if◌then◌else◌, length, map, suc, zero, ℕ, ◌++◌, ◌+◌, ◌∷◌}

-- what is kept of a trace
abbrev pub tracer_of : Tracing → Tracer
tracer_of t = record { proc = t.proc; runs = map run_of t.activations; answers = t.answers; events = t.events }

-- ---- the tags

-- the top run with a new tag of each cell of an array
abbrev pub all_tagged : ℕ → ℕ → Tag → List Run → List Run
all_tagged base zero me xs = xs
all_tagged base (suc n) me xs = tagged (base + n) me (all_tagged base n me xs)

-- the runs with that of function f, which the head statement calls
abbrev pub begun_call : Program → Proc → ℕ → Tag → List Run → List Run
begun_call program s f me xs = called program f (length (arguments_at program s)) me ∷ xs

-- the runs after a deed, if there is one
abbrev pub tagged_deed : Program → Proc → Tag → Option Deed → List Run → List Run
tagged_deed program s me (Some (set_local c v)) xs = tagged c me xs
tagged_deed program s me (Some (clear base len)) xs = all_tagged base len me xs
tagged_deed program s me (Some (invoke f values into)) xs = begun_call program s f me xs
tagged_deed program s me (Some (back value)) xs =
    tagged_into (into_at program (top_frame s.frames).call) value me (drop 1 xs)
tagged_deed program s me (Some (receive chan into)) xs = tagged into me xs
tagged_deed program s me deed xs = xs

-- a step that traps writes nothing
abbrev pub tagged_after : Program → Proc → Tag → Need → List Run → List Run
tagged_after program s me (Trap t) xs = xs
tagged_after program s me need xs = tagged_deed program s me (deed_at program s) xs

-- the run of a process's body with so many local cells
abbrev pub begun_body : ℕ → List Run
begun_body n = begun_run n ∷ []

-- ---- one step

-- the control parent of an event of the head, and None in a process by itself
abbrev pub parent_at : Program → List Run → List Todo → Option EventId
parent_at program xs [] = None
parent_at program xs (t ∷ ts) = parent_of program xs t.stmt

-- the next event of process p
abbrev pub me_in : ℕ → Tracer → EventId
me_in p t = record { process = p; number = length t.events }

-- an event with the writers of its reads, its parent and its pair
abbrev pub traced_by : Program → Story → Taken → Tracer → Event → TracedEvent
traced_by program story x t e = record {
  event = e;
  writers = tags_of (top_tags t.runs) t.answers e.reads;
  parent = parent_at program t.runs t.proc.todo;
  paired = leading_from program (sync_of x) 0 story.steps;
}

-- a step that finishes or traps a statement
abbrev pub with_event : Program → Plan → Story → ℕ → Taken → Tracer → Tracer
with_event program plan story p x t =
    let e = event_of program plan t.proc x t.proc.todo in
    record t {
      runs = tagged_after program t.proc (Some (me_in p t)) x.need (with_test program (me_in p t) e t.runs);
      answers = [];
      events = t.events ++ traced_by program story x t e ∷ [];
    }

-- a read keeps its tag for the event that it is of; an entry of a loop and a stop are no events
abbrev pub trace_by : Program → Plan → Story → ℕ → Taken → Tracer → Tracer
trace_by program plan story p x t =
    if is_event x.need then with_event program plan story p x t
    else record t { answers = answers_by x.need x.writer t.answers }

-- the state goes on by the step's answer
abbrev pub trace_step : Program → Plan → Story → ℕ → Tracer → Taken → Tracer
trace_step program plan story p t x =
    record (trace_by program plan story p x t) { proc = act program plan t.proc x.answer }
