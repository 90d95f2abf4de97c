-- The events of a schedule: each with the writers of what it read, its control parent and its pair.
use Rattle.ppd_model.specs.Setting.{Setting}
use Rattle.ppd_ast.specs.Lookups.{body_numbered, kind_of}
use Rattle.ppd_ast.specs.declared.plan.Plan.{Plan}
use Rattle.ppd_ast.specs.declared.program.Kind.{Kind}
use Rattle.ppd_ast.specs.declared.program.Kind.TheVariants.{If, While}
use Rattle.ppd_ast.specs.declared.program.Program.{Program}
use Rattle.ppd_model.specs.Story.{Story, Taken}
use Rattle.ppd_model.specs.Synchronizations.{leading_from, sync_of}
use Rattle.ppd_model.specs.declared.trace.EventId.{EventId}
use Rattle.ppd_model.specs.declared.trace.Trace.{Trace}
use Rattle.ppd_model.specs.declared.trace.TracedEvent.{TracedEvent}
pub use Rattle.ppd_model.specs.declared.tracing.Activation.{Activation}
pub use Rattle.ppd_model.specs.declared.tracing.Test.{Test}
pub use Rattle.ppd_model.specs.declared.tracing.Tracing.{Tracing}
use Rattle.ppd_sem.specs.Asked.{Asked}
use Rattle.ppd_sem.specs.Deed.{Deed, back, clear, invoke, receive, set_local}
use Rattle.ppd_sem.specs.Described.{described}
use Rattle.ppd_sem.specs.Process.{act, head_deed, into_at, started, top_frame}
use Rattle.ppd_sem.specs.declared.event.Access.{Access}
use Rattle.ppd_sem.specs.declared.event.Event.{Event}
use Rattle.ppd_sem.specs.declared.event.Spot.{Spot}
use Rattle.ppd_sem.specs.declared.event.Spot.TheVariants.{Local, Shared}
use Rattle.ppd_sem.specs.declared.proc.Need.{Need}
use Rattle.ppd_sem.specs.declared.proc.Need.TheVariants.{Budget, Enter, Read, Stopped, Trap}
use Rattle.ppd_sem.specs.declared.proc.Proc.{Proc}
use Rattle.ppd_sem.specs.declared.proc.Todo.{Todo}
use Rattle.std.specs.List.{enumerate_from}
use Rattle.std.specs.Option.{option_map_or, option_or}
use Rattle.std.specs.Ordering.{int_eq}
use Rattle.std.specs.Prelude.{Bool, List, None, Ok, Option, Some, [], drop, false, find, fold, get_or, if◌then◌else◌, length, map, nat_eq, not, option_and_then, option_map, pos, replicate, slice_get, slice_set, suc, zero, ℕ, ℤ, ◌++◌, ◌+◌, ◌-◌, ◌∷◌}

-- the event that last wrote a place, and None for its start value
abbrev pub Tag : Type 0
Tag = Option EventId

-- ---- the tags of what is read

-- the tags of the local cells of the top frame
abbrev pub top_tags : List Activation → List Tag
top_tags [] = []
top_tags (x ∷ xs) = x.tags

-- the tag of a place that is read, and the answers that are left: a shared one takes the next answer with its tag
abbrev pub tag_past : List Tag → List Tag → Spot → Tag × List Tag
tag_past locals answers (Local frame c) = (get_or locals c None, answers)
tag_past locals answers (Shared c) = (get_or answers 0 None, drop 1 answers)

-- the tags of reads in their order
abbrev pub tags_of : List Tag → List Tag → List Access → List Tag
tags_of locals answers [] = []
tags_of locals answers (a ∷ as') =
    (tag_past locals answers a.spot).0 ∷ tags_of locals (tag_past locals answers a.spot).1 as'

-- ---- the tags of what is written

-- the top activation with a new tag of cell c
abbrev pub tagged : ℕ → Tag → List Activation → List Activation
tagged c me [] = []
tagged c me (x ∷ xs) = record x { tags = slice_set x.tags c me } ∷ xs

-- the top activation with a new tag of each cell of an array
abbrev pub all_tagged : ℕ → ℕ → Tag → List Activation → List Activation
all_tagged base zero me xs = xs
all_tagged base (suc n) me xs = tagged (base + n) me (all_tagged base n me xs)

-- the activation that a call begins, which writes so many parameters
abbrev pub called : Program → ℕ → ℕ → Option EventId → Activation
called program f count me = record {
  call = me;
  tags = replicate count me ++ replicate ((body_numbered program f).cells - count) None;
  tests = [];
}

-- the receiving local has the tag of the return, where there are a local and a value
abbrev pub tagged_into : Option ℕ → Option ℤ → Tag → List Activation → List Activation
tagged_into (Some c) (Some v) me xs = tagged c me xs
tagged_into into value me xs = xs

-- the activations after a statement that the event finished
abbrev pub tagged_by : Program → Proc → Tag → Asked Deed → List Activation → List Activation
tagged_by program s me (Ok (set_local c v, left)) xs = tagged c me xs
tagged_by program s me (Ok (clear base len, left)) xs = all_tagged base len me xs
tagged_by program s me (Ok (invoke f values into, left)) xs = called program f (length values) me ∷ xs
tagged_by program s me (Ok (back value, left)) xs =
    tagged_into (into_at program (top_frame s.frames).call) value me (drop 1 xs)
tagged_by program s me (Ok (receive chan into, left)) xs = tagged into me xs
tagged_by program s me asked xs = xs

-- the activations after the head statement; a step that traps writes nothing
abbrev pub tagged_after : Program → Proc → Tag → Need → List Activation → List Activation
tagged_after program s me (Trap t) xs = xs
tagged_after program s me need xs =
    option_map_or (λ t. tagged_by program s me (head_deed program t s) xs) (slice_get s.todo 0) xs

-- ---- control

-- the latest test of a statement
abbrev pub latest : ℕ → List Test → Option Test
latest s tests = find (λ x. nat_eq x.stmt s) tests

-- the previous test of a loop run that goes on
abbrev pub of_run : Kind → Option Test → Option EventId
of_run (While e body) (Some x) = if x.passed then Some x.event else None
of_run k x = None

-- the control parent of statement s in its activation
abbrev pub parent_in : Program → ℕ → Activation → Option EventId
parent_in program s x =
    let outer = option_and_then (λ x. x.parent) (slice_get program.stmts s) in
    let by_outer = option_and_then (λ o. option_map (λ y. y.event) (latest o x.tests)) outer in
    option_or (of_run (kind_of program s) (latest s x.tests)) (option_or by_outer x.call)

-- the control parent of an event of the head: the previous test of its loop run, or the latest
-- test of the statement round it, or else the call; and None in a process by itself
abbrev pub parent_at : Program → List Activation → List Todo → Option EventId
parent_at program [] todo = None
parent_at program xs [] = None
parent_at program (x ∷ xs) (t ∷ ts) = parent_in program t.stmt x

-- a value that is there and not 0
abbrev pub is_passed : Option ℤ → Bool
is_passed None = false
is_passed (Some v) = not (int_eq v (pos 0))

-- the tests of an activation with one more, where the statement is an `If` or a `While`
abbrev pub tests_after : Kind → ℕ → EventId → Option ℤ → List Test → List Test
tests_after (If e first second) s me value tests = record { stmt = s; event = me; passed = is_passed value } ∷ tests
tests_after (While e body) s me value tests = record { stmt = s; event = me; passed = is_passed value } ∷ tests
tests_after k s me value tests = tests

-- the top activation with the event, if it is of a test
abbrev pub with_test : Program → EventId → Event → List Activation → List Activation
with_test program me e [] = []
with_test program me e (x ∷ xs) =
    record x { tests = tests_after (kind_of program e.stmt) e.stmt me e.value x.tests } ∷ xs

-- ---- one step

-- the event of a process's next step; where nothing is to do, one of no reads and writes stands for it
abbrev pub event_of : Program → Plan → Proc → Taken → List Todo → Event
event_of program plan s x [] =
    record { stmt = 0; reads = []; writes = []; value = None; number = None; trap = None }
event_of program plan s x (t ∷ ts) = record (described program plan s t x.answer) { number = x.number }

-- the next event of process p
abbrev pub me_in : ℕ → Tracing → EventId
me_in p t = record { process = p; number = length t.events }

-- an event with the writers of its reads, its parent and its pair
abbrev pub traced_by : Program → Story → Taken → Tracing → Event → TracedEvent
traced_by program story x t e = record {
  event = e;
  writers = tags_of (top_tags t.activations) t.answers e.reads;
  parent = parent_at program t.activations t.proc.todo;
  paired = leading_from program (sync_of x) 0 story.steps;
}

-- a step that finishes or traps a statement
abbrev pub with_event : Program → Plan → Story → ℕ → Taken → Tracing → Tracing
with_event program plan story p x t =
    let e = event_of program plan t.proc x t.proc.todo in
    record t {
      activations =
          tagged_after program t.proc (Some (me_in p t)) x.need (with_test program (me_in p t) e t.activations);
      answers = [];
      events = t.events ++ traced_by program story x t e ∷ [];
    }

-- a read keeps its tag for the event that it is of; an entry of a loop and a stop are no events
abbrev pub trace_by : Program → Plan → Story → ℕ → Taken → Need → Tracing → Tracing
trace_by program plan story p x (Read c) t = record t { answers = t.answers ++ x.writer ∷ [] }
trace_by program plan story p x (Enter b u) t = t
trace_by program plan story p x Budget t = t
trace_by program plan story p x Stopped t = t
trace_by program plan story p x need t = with_event program plan story p x t

-- the state goes on by the step's answer
abbrev pub trace_step : Program → Plan → Story → ℕ → Tracing → Taken → Tracing
trace_step program plan story p t x =
    record (trace_by program plan story p x x.need t) { proc = act program plan t.proc x.answer }

-- ---- a process, and all of them

-- the frames of a process before its first step have no tags
abbrev pub begun_tracing : Proc → Tracing
begun_tracing s = record {
  proc = s;
  activations = map (λ f. record { call = None; tags = map (λ _. None) f.cells; tests = [] }) s.frames;
  answers = [];
  events = [];
}

-- process p, traced by its own steps
abbrev pub tracing_of : Setting → Story → ℕ → List Taken → Tracing
tracing_of setting story p steps =
    fold (trace_step setting.program setting.plan story p)
    (begun_tracing (started setting.program setting.plan p setting.budget)) steps

-- the full trace of a story: the events of each process
abbrev pub full_trace : Setting → Story → Trace
full_trace setting story =
    record { events = map (λ e. (tracing_of setting story e.0 e.1).events) (enumerate_from 0 story.steps) }
