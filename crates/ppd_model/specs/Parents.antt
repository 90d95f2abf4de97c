-- The control parent of an event, told by the events that were before it in its activation.
use Rattle.ppd_model.specs.Setting.{Setting}
use Rattle.ppd_ast.specs.Lookups.{kind_of}
use Rattle.ppd_ast.specs.Numbered.{is_call, is_while}
use Rattle.ppd_ast.specs.Valid.{IsValid}
use Rattle.ppd_ast.specs.declared.plan.Plan.{Plan}
use Rattle.ppd_ast.specs.declared.program.Kind.{Kind}
use Rattle.ppd_ast.specs.declared.program.Kind.TheVariants.{If, While}
use Rattle.ppd_ast.specs.declared.program.Program.{Program}
use Rattle.ppd_model.specs.FullTrace.{Tracing, begun_tracing, event_of, full_trace, is_passed, me_in, trace_step}
use Rattle.ppd_model.specs.Story.{Story, Taken, story}
use Rattle.ppd_model.specs.declared.trace.EventId.{EventId}
use Rattle.ppd_model.specs.declared.trace.TracedEvent.{TracedEvent}
use Rattle.ppd_sem.specs.Described.{is_event}
use Rattle.ppd_sem.specs.Process.{act, started}
use Rattle.ppd_sem.specs.declared.proc.Proc.{Proc}
use Rattle.ppd_sem.specs.declared.proc.Todo.{Todo}
use Rattle.std.specs.Prelude.{Bool, List, None, Option, Some, [], false, fold, get_or, length, nat_eq, option_and_then, slice_get, true, ℕ, ⊤, ◌&&◌, ◌++◌, ◌+◌, ◌<◌, ◌∷◌, ◌≡◌, ◌≤◌, ◌⊎◌}

-- ---- the steps that test

-- an `If` or a `While`
abbrev pub is_choice : Kind → Bool
is_choice (If e first second) = true
is_choice (While e body) = true
is_choice k = false

-- the head is statement s, an `If` or a `While`
abbrev pub is_test_at : Program → ℕ → List Todo → Bool
is_test_at program s [] = false
is_test_at program s (t ∷ ts) = nat_eq t.stmt s && is_choice (kind_of program t.stmt)

-- the step's event is of statement s, an `If` or a `While`, in activation k, which is then the top one
abbrev pub is_test : Program → (k s : ℕ) → Proc → Taken → Bool
is_test program k s proc x = is_event x.need && (nat_eq (k + 1) (length proc.frames) && is_test_at program s proc.todo)

-- ---- the latest test of a statement in an activation

-- the activation is there at each time of these steps
abbrev pub Lasts : Program → Plan → ℕ → Proc → List Taken → Type 0
Lasts program plan k proc [] = k < length proc.frames
Lasts program plan k proc (x ∷ xs) = (k < length proc.frames) × Lasts program plan k (act program plan proc x.answer) xs

-- and no event of theirs is a test of statement s in it
abbrev pub IsUntested : Program → Plan → (k s : ℕ) → Proc → List Taken → Type 0
IsUntested program plan k s proc [] = k < length proc.frames
IsUntested program plan k s proc (x ∷ xs) =
    (k < length proc.frames)
    × ((is_test program k s proc x ≡ false) × IsUntested program plan k s (act program plan proc x.answer) xs)

-- the process p, traced by these steps
abbrev pub traced_to : Program → Plan → Story → ℕ → Tracing → List Taken → Tracing
traced_to program plan story p t steps = fold (trace_step program plan story p) t steps

-- the event is that of the last step that tests statement s in activation k, which is there since; and
-- whether its value was true
pub record IsLatestTest (program : Program) (plan : Plan) (story : Story) (p k s : ℕ) (t : Tracing)
    (steps : List Taken) (event : EventId) (passed : Bool) : Type 0 where
  pub before : List Taken
  pub taken : Taken
  pub after : List Taken
  pub steps_are : steps ≡ before ++ taken ∷ after
  pub tests : is_test program k s (traced_to program plan story p t before).proc taken ≡ true
  pub event_is : event ≡ me_in p (traced_to program plan story p t before)
  pub passed_is : passed
      ≡ is_passed (event_of program plan (traced_to program plan story p t before).proc taken
      (traced_to program plan story p t before).proc.todo).value
  pub steady : IsUntested program plan k s
      (act program plan (traced_to program plan story p t before).proc taken.answer) after

-- the activation is begun by the event of a call, and is there since
pub record IsBegunBy (program : Program) (plan : Plan) (story : Story) (p k : ℕ) (t : Tracing) (steps : List Taken)
    (call : Option EventId) : Type 0 where
  pub before : List Taken
  pub taken : Taken
  pub after : List Taken
  pub steps_are : steps ≡ before ++ taken ∷ after
  pub finishes : is_event taken.need ≡ true
  pub calls : is_call
      (kind_of program
      (event_of program plan (traced_to program plan story p t before).proc taken
      (traced_to program plan story p t before).proc.todo).stmt) ≡ true
  pub is_new : length (traced_to program plan story p t before).proc.frames ≤ k
  pub call_is : call ≡ Some (me_in p (traced_to program plan story p t before))
  pub lasts : Lasts program plan k (act program plan (traced_to program plan story p t before).proc taken.answer) after

-- the activation was there before the first step, and is there since: no call began it
pub record IsActiveFromStart (program : Program) (plan : Plan) (k : ℕ) (t : Tracing) (steps : List Taken)
    (call : Option EventId) : Type 0 where
  pub call_is : call ≡ None
  pub lasts : Lasts program plan k t.proc steps

-- ---- the parent of an event of statement s in activation k, after these steps

-- a run of the loop goes on: the latest test of this `While` was true, and is the parent
pub record GoesOn (program : Program) (plan : Plan) (story : Story) (p k s : ℕ) (t : Tracing) (steps : List Taken)
    (parent : Option EventId) : Type 0 where
  pub loops : is_while (kind_of program s) ≡ true
  pub event : EventId
  pub latest : IsLatestTest program plan story p k s t steps event true
  pub parent_is : parent ≡ Some event

-- no run of a loop goes on: a `While` was not tested in this activation, or its latest test was not true
abbrev pub IsFirst : Program → Plan → Story → (p k s : ℕ) → Tracing → List Taken → Type 0
IsFirst program plan story p k s t steps =
    is_while (kind_of program s) ≡ true → (event : EventId)
    → IsLatestTest program plan story p k s t steps event true → ⊥

-- the parent is the latest event of the `If` or `While` in which the statement directly stands
pub record StandsIn (program : Program) (plan : Plan) (story : Story) (p k s : ℕ) (t : Tracing) (steps : List Taken)
    (parent : Option EventId) : Type 0 where
  pub first : IsFirst program plan story p k s t steps
  pub outer : ℕ
  pub outer_is : option_and_then (λ x. x.parent) (slice_get program.stmts s) ≡ Some outer
  pub event : EventId
  pub passed : Bool
  pub latest : IsLatestTest program plan story p k outer t steps event passed
  pub parent_is : parent ≡ Some event

-- neither: the parent is the call, and none in a process
pub record IsOutermost (program : Program) (plan : Plan) (story : Story) (p k s : ℕ) (t : Tracing)
    (steps : List Taken) (parent : Option EventId) : Type 0 where
  pub first : IsFirst program plan story p k s t steps
  pub untested : (outer : ℕ) → option_and_then (λ x. x.parent) (slice_get program.stmts s) ≡ Some outer
      → (event : EventId) (passed : Bool)
      → IsLatestTest program plan story p k outer t steps event passed → ⊥
  pub call : IsBegunBy program plan story p k t steps parent ⊎ IsActiveFromStart program plan k t steps parent

abbrev pub IsParent : Program → Plan → Story → (p k s : ℕ) → Tracing → List Taken → Option EventId → Type 0
IsParent program plan story p k s t steps parent =
    GoesOn program plan story p k s t steps parent
    ⊎ (StandsIn program plan story p k s t steps parent ⊎ IsOutermost program plan story p k s t steps parent)

-- ---- the events of a trace

-- event n of process p is that of one of the process's steps, and its parent is found from those before
pub record HasParent (program : Program) (plan : Plan) (story : Story) (p : ℕ) (t : Tracing) (steps : List Taken)
    (n : ℕ) (e : TracedEvent) : Type 0 where
  pub before : List Taken
  pub taken : Taken
  pub after : List Taken
  pub steps_are : steps ≡ before ++ taken ∷ after
  pub finishes : is_event taken.need ≡ true
  pub number_is : n ≡ length (traced_to program plan story p t before).events
  pub event_is : e.event
      ≡ event_of program plan (traced_to program plan story p t before).proc taken
      (traced_to program plan story p t before).proc.todo
  pub parent : (k : ℕ) → k + 1 ≡ length (traced_to program plan story p t before).proc.frames
      → IsParent program plan story p k e.event.stmt t before e.parent

-- so it is of each event of the trace of a schedule
abbrev pub ParentsAreLatestTests : Type 0
ParentsAreLatestTests =
    (setting : Setting) (h : List ℕ) (p n : ℕ) (e : TracedEvent)
    → slice_get (get_or (full_trace setting (story setting h)).events p []) n ≡ Some e
    → HasParent setting.program setting.plan (story setting h) p
    (begun_tracing (started setting.program setting.plan p setting.budget))
    (get_or (story setting h).steps p []) n e

-- ---- valid programs

-- statement q stands in statement s, directly or in one that does
pub data IsInside (program : Program) (s : ℕ) : ℕ → Type 0 where
  directly : {q : ℕ} → option_and_then (λ x. x.parent) (slice_get program.stmts q) ≡ Some s → IsInside program s q
  deeper : {q : ℕ} (r : ℕ) → option_and_then (λ x. x.parent) (slice_get program.stmts q) ≡ Some r → IsInside program s r
      → IsInside program s q

-- each event of these steps in activation k is of a statement that stands in statement s
abbrev pub StaysInside : Program → Plan → (k s : ℕ) → Proc → List Taken → Type 0
StaysInside program plan k s proc [] = ⊤
StaysInside program plan k s proc (x ∷ xs) =
    (is_event x.need ≡ true → k + 1 ≡ length proc.frames
    → IsInside program s (event_of program plan proc x proc.todo).stmt)
    × StaysInside program plan k s (act program plan proc x.answer) xs

-- statement s was tested in activation k
pub record IsTested (program : Program) (plan : Plan) (story : Story) (p k s : ℕ) (t : Tracing)
    (steps : List Taken) : Type 0 where
  pub event : EventId
  pub passed : Bool
  pub latest : IsLatestTest program plan story p k s t steps event passed

-- an event has an activation, in which the statement round the event's was tested before, if there is one
pub record HasTestedOuter (program : Program) (plan : Plan) (story : Story) (p : ℕ) (t : Tracing)
    (before : List Taken) (taken : Taken) : Type 0 where
  pub activation : 0 < length (traced_to program plan story p t before).proc.frames
  pub tested : (k outer : ℕ) → k + 1 ≡ length (traced_to program plan story p t before).proc.frames
      → option_and_then (λ x. x.parent) (slice_get program.stmts
      (event_of program plan (traced_to program plan story p t before).proc taken
      (traced_to program plan story p t before).proc.todo).stmt) ≡ Some outer
      → IsTested program plan story p k outer t before

-- so it is of each event of a schedule of a valid program
abbrev pub OutersAreTested : Type 0
OutersAreTested =
    (setting : Setting) (h : List ℕ) (p : ℕ) (before : List Taken) (taken : Taken)
    (after : List Taken)
    → IsValid setting.program → get_or (story setting h).steps p [] ≡ before ++ taken ∷ after
    → is_event taken.need ≡ true
    → HasTestedOuter setting.program setting.plan (story setting h) p
    (begun_tracing (started setting.program setting.plan p setting.budget)) before taken

-- since a true test of a `While` that is the latest one, the events in its activation are all of
-- statements inside the loop: the run of the loop goes on
abbrev pub LoopRunsStayInside : Type 0
LoopRunsStayInside =
    (setting : Setting) (h : List ℕ) (p : ℕ) (before after : List Taken) (k s : ℕ)
    (event : EventId)
    → IsValid setting.program → get_or (story setting h).steps p [] ≡ before ++ after
    → is_while (kind_of setting.program s) ≡ true
    → (l : IsLatestTest setting.program setting.plan (story setting h) p k s
    (begun_tracing (started setting.program setting.plan p setting.budget)) before event true)
    → StaysInside setting.program setting.plan k s
    (act setting.program setting.plan
    (traced_to setting.program setting.plan (story setting h) p
    (begun_tracing (started setting.program setting.plan p setting.budget)) l.before).proc l.taken.answer) l.after

-- the statement is of a top list, and the parent is the call, and none in a process
pub record IsOfTopList (program : Program) (plan : Plan) (story : Story) (p k s : ℕ) (t : Tracing)
    (steps : List Taken) (parent : Option EventId) : Type 0 where
  pub first : IsFirst program plan story p k s t steps
  pub top : option_and_then (λ x. x.parent) (slice_get program.stmts s) ≡ None
  pub call : IsBegunBy program plan story p k t steps parent ⊎ IsActiveFromStart program plan k t steps parent

-- an event is of the top activation, and its parent is the test of a loop's run that goes on, or that of
-- the statement round its own, or the call, where its statement is of a top list
pub record HasValidParent (program : Program) (plan : Plan) (story : Story) (p : ℕ) (t : Tracing)
    (steps : List Taken) (n : ℕ) (e : TracedEvent) : Type 0 where
  pub event : HasParent program plan story p t steps n e
  pub activation : ℕ
  pub is_top : activation + 1 ≡ length (traced_to program plan story p t event.before).proc.frames
  pub parent : GoesOn program plan story p activation e.event.stmt t event.before e.parent
      ⊎ (StandsIn program plan story p activation e.event.stmt t event.before e.parent
      ⊎ IsOfTopList program plan story p activation e.event.stmt t event.before e.parent)

-- so it is of each event of the trace of a schedule of a valid program
abbrev pub ValidParents : Type 0
ValidParents =
    (setting : Setting) (h : List ℕ) (p n : ℕ) (e : TracedEvent) → IsValid setting.program
    → slice_get (get_or (full_trace setting (story setting h)).events p []) n ≡ Some e
    → HasValidParent setting.program setting.plan (story setting h) p
    (begun_tracing (started setting.program setting.plan p setting.budget))
    (get_or (story setting h).steps p []) n e
