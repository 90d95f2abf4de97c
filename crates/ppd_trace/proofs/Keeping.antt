-- What is kept of a trace goes on as the trace does.
use Rattle.ppd_activations.proofs.Keeping.{parent_in_as, returned_as, tagged_as, top_tags_as, with_test_as}
use Rattle.ppd_activations.specs.Runs.{called, run_of, tagged, top_tags, with_test}
use Rattle.ppd_activations.specs.declared.runs.Run.{Run}
use Rattle.ppd_ast.specs.declared.plan.Plan.{Plan}
use Rattle.ppd_ast.specs.declared.program.Program.{Program}
use Rattle.ppd_model.proofs.TraceWords as words
use Rattle.ppd_model.specs.FullTrace as trace
use Rattle.ppd_model.specs.FullTrace.{Tag, event_of, tags_of}
use Rattle.ppd_model.specs.Synchronizations.{leading_from, sync_of}
use Rattle.ppd_model.specs.declared.trace.EventId.{EventId}
use Rattle.ppd_model.specs.declared.trace.TracedEvent.{TracedEvent}
use Rattle.ppd_model.specs.declared.tracing.Activation.{Activation}
use Rattle.ppd_model.specs.declared.tracing.Story.{Story}
use Rattle.ppd_model.specs.declared.tracing.Taken.{Taken}
use Rattle.ppd_model.specs.declared.tracing.Tracing.{Tracing}
use Rattle.ppd_sem.proofs.EventWords.{arguments_of_head}
use Rattle.ppd_sem.specs.Asked.{Asked, outcome}
use Rattle.ppd_sem.specs.Deed.{Deed, back, clear, invoke, receive, set_local}
use Rattle.ppd_sem.specs.Described.{is_event}
use Rattle.ppd_sem.specs.Passed.{arguments_at, arguments_by, deed_at, deed_by, deed_of_head}
use Rattle.ppd_sem.specs.Process.{act, head_deed, into_at, top_frame}
use Rattle.ppd_sem.specs.declared.event.Event.{Event}
use Rattle.ppd_sem.specs.declared.proc.Need.{Need}
use Rattle.ppd_sem.specs.declared.proc.Need.TheVariants.{Trap}
use Rattle.ppd_sem.specs.declared.proc.Proc.{Proc}
use Rattle.ppd_sem.specs.declared.proc.Todo.{Todo}
use Rattle.ppd_trace.proofs.Following.{by_event, without_event}
use Rattle.ppd_trace.specs.Runs.{all_tagged, parent_at, tagged_after, tagged_deed, trace_by, trace_step, traced_by, tracer_of, with_event}
use Rattle.ppd_trace.specs.Tagging.{answers_by}
use Rattle.ppd_trace.specs.declared.tracer.Tracer.{Tracer}
use Rattle.std.proofs.Common.{Bool, Err, List, Ok, Option, Some, [], ap, arith, cond, false, length, length-append, map, refl, suc, sym, true, zero, ℕ, ℤ, ◌++◌, ◌+◌, ◌∙◌, ◌∷◌, ◌≡◌, ◌≤◌}
use Rattle.std.specs.Prelude.{slice_get}

-- ---- tags

all_tagged_as : (base n : ℕ) (me : Tag) (xs : List Activation) → map run_of (trace.all_tagged base n me xs) ≡ all_tagged base n me (map run_of xs)
all_tagged_as base zero me xs = refl
all_tagged_as base (suc n) me xs = tagged_as (base + n) me (trace.all_tagged base n me xs) ∙ ap (λ (l : List Run). tagged (base + n) me l) (all_tagged_as base n me xs)

by_asked : (program : Program) (s : Proc) (me : Tag) (asked : Asked Deed) (xs : List Activation) → arguments_at program s ≡ arguments_by asked
    → map run_of (trace.tagged_by program s me asked xs) ≡ tagged_deed program s me (deed_by (outcome asked)) (map run_of xs)
by_asked program s me (Ok (set_local c v, left)) xs e = tagged_as c me xs
by_asked program s me (Ok (clear base len, left)) xs e = all_tagged_as base len me xs
by_asked program s me (Ok (invoke f values into, left)) xs e = ap (λ (vs : List ℤ). called program f (length vs) me ∷ map run_of xs) (sym e)
by_asked program s me (Ok (back value, left)) xs e =
    returned_as (into_at program (top_frame s.frames).call) value me xs
by_asked program s me (Ok (receive chan into, left)) xs e = tagged_as into me xs
by_asked program s me (Ok (deed, left)) xs e = refl
by_asked program s me (Err pause) xs e = refl

by_deed : (program : Program) (s : Proc) (me : Tag) (xs : List Activation) → map run_of (words.tagged_at program s me s.todo xs) ≡ tagged_deed program s me (deed_at program s) (map run_of xs)
by_deed program s me xs = at s.todo refl
  where
    at : (todo : List Todo) → s.todo ≡ todo → map run_of (words.tagged_at program s me s.todo xs) ≡ tagged_deed program s me (deed_at program s) (map run_of xs)
    at [] e =
        ap (λ (l : List Todo). map run_of (words.tagged_at program s me l xs)) e
        ∙ sym (ap (λ (l : List Todo). tagged_deed program s me (deed_of_head program s (slice_get l 0)) (map run_of xs)) e)
    at (t ∷ ts) e =
        let same : arguments_at program s ≡ arguments_by (head_deed program t s) = ap (λ (l : List Todo). arguments_of_head program s (slice_get l 0)) e in
        ap (λ (l : List Todo). map run_of (words.tagged_at program s me l xs)) e
        ∙ by_asked program s me (head_deed program t s) xs same
        ∙ sym (ap (λ (l : List Todo). tagged_deed program s me (deed_of_head program s (slice_get l 0)) (map run_of xs)) e)

tagged_after_as : (program : Program) (s : Proc) (me : Tag) (n : Need) (xs : List Activation) → map run_of (trace.tagged_after program s me n xs) ≡ tagged_after program s me n (map run_of xs)
tagged_after_as program s me (Trap t) xs = refl
tagged_after_as program s me n xs = by_deed program s me xs

-- ---- control

parent_at_as : (program : Program) (xs : List Activation) (todo : List Todo) → parent_at program (map run_of xs) todo ≡ trace.parent_at program xs todo
parent_at_as program [] [] = refl
parent_at_as program [] (t ∷ ts) = refl
parent_at_as program (x ∷ xs) [] = refl
parent_at_as program (x ∷ xs) (t ∷ ts) = parent_in_as program t.stmt x

-- ---- one step

traced : Event → List Tag → Option EventId → Option EventId → TracedEvent
traced e writers parent paired = record { event = e; writers = writers; parent = parent; paired = paired }

traced_by_as : (program : Program) (story : Story) (x : Taken) (t : Tracing) (e : Event) → trace.traced_by program story x t e ≡ traced_by program story x (tracer_of t) e
unfolding traced
traced_by_as program story x t e =
    ap (λ (l : List Tag). traced e (tags_of l t.answers e.reads) (trace.parent_at program t.activations t.proc.todo) (leading_from program (sync_of x) 0 story.steps)) (sym (top_tags_as t.activations))
    ∙ ap (λ (o : Option EventId). traced e (tags_of (top_tags (map run_of t.activations)) t.answers e.reads) o (leading_from program (sync_of x) 0 story.steps)) (sym (parent_at_as program t.activations t.proc.todo))

-- a process with its runs, the tags of the answers and the events
abbrev pub parts : Proc → List Run → List Tag → List TracedEvent → Tracer
parts s runs answers events = record { proc = s; runs = runs; answers = answers; events = events }

with_event_as : (program : Program) (plan : Plan) (story : Story) (p : ℕ) (x : Taken) (t : Tracing) → tracer_of (trace.with_event program plan story p x t) ≡ with_event program plan story p x (tracer_of t)
with_event_as program plan story p x t =
    let e : Event = event_of program plan t.proc x t.proc.todo in
    let me : EventId = trace.me_in p t in
    let before : List Activation = trace.with_test program me e t.activations in
    ap (λ (l : List Run). parts t.proc l [] (t.events ++ trace.traced_by program story x t e ∷ [])) (tagged_after_as program t.proc (Some me) x.need before)
    ∙ ap (λ (l : List Run). parts t.proc (tagged_after program t.proc (Some me) x.need l) [] (t.events ++ trace.traced_by program story x t e ∷ [])) (with_test_as program me e t.activations)
    ∙ ap (λ (y : TracedEvent). parts t.proc (tagged_after program t.proc (Some me) x.need (with_test program me e (map run_of t.activations))) [] (t.events ++ y ∷ [])) (traced_by_as program story x t e)

trace_by_as : (program : Program) (plan : Plan) (story : Story) (p : ℕ) (x : Taken) (t : Tracing) → tracer_of (trace.trace_by program plan story p x x.need t) ≡ trace_by program plan story p x (tracer_of t)
trace_by_as program plan story p x t = by (is_event x.need) refl
  where
    by : (b : Bool) → is_event x.need ≡ b → tracer_of (trace.trace_by program plan story p x x.need t) ≡ trace_by program plan story p x (tracer_of t)
    by true e =
        ap tracer_of (by_event program plan story p x x.need t e) ∙ with_event_as program plan story p x t
        ∙ sym (ap (λ (b : Bool). cond b (with_event program plan story p x (tracer_of t)) (record (tracer_of t) { answers = answers_by x.need x.writer t.answers })) e)
    by false e =
        ap tracer_of (without_event program plan story p x x.need t e)
        ∙ sym (ap (λ (b : Bool). cond b (with_event program plan story p x (tracer_of t)) (record (tracer_of t) { answers = answers_by x.need x.writer t.answers })) e)

pub step_as : (program : Program) (plan : Plan) (story : Story) (p : ℕ) (t : Tracing) (x : Taken) → tracer_of (trace.trace_step program plan story p t x) ≡ trace_step program plan story p (tracer_of t) x
step_as program plan story p t x = ap (λ (v : Tracer). record v { proc = act program plan t.proc x.answer }) (trace_by_as program plan story p x t)

-- ---- the state of the process stays in an event, and there is one event more at most

pub same_proc : (program : Program) (plan : Plan) (story : Story) (p : ℕ) (x : Taken) (t : Tracer) → (trace_by program plan story p x t).proc ≡ t.proc
same_proc program plan story p x t = by (is_event x.need)
  where
    by : (b : Bool) → (cond b (with_event program plan story p x t) (record t { answers = answers_by x.need x.writer t.answers })).proc ≡ t.proc
    by true = refl
    by false = refl

pub few_events : (program : Program) (plan : Plan) (story : Story) (p : ℕ) (t : Tracer) (x : Taken) → length (trace_step program plan story p t x).events ≤ length t.events + 1
few_events program plan story p t x = by (is_event x.need)
  where
    by : (b : Bool) → length (cond b (with_event program plan story p x t) (record t { answers = answers_by x.need x.writer t.answers })).events ≤ length t.events + 1
    by true =
        let more : length (t.events ++ traced_by program story x t (event_of program plan t.proc x t.proc.todo) ∷ []) ≡ length t.events + 1 = length-append t.events (traced_by program story x t (event_of program plan t.proc x t.proc.todo) ∷ []) in
        omega arith
    by false = omega arith
