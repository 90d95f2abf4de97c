-- The events of a trace as those of the run, and what their writers and parents name.
use Rattle.ppd_model.specs.Setting.{Setting}
use Rattle.std.specs.Prelude.{◌≡◌, ℕ, ◌+◌, ◌<◌, List, [], ◌∷◌, map, Some, None, ⊤, if◌then◌else◌}
use Rattle.ppd_ast.specs.declared.plan.Plan.{Plan}
use Rattle.ppd_ast.specs.declared.program.Program.{Program}
use Rattle.ppd_sem.specs.declared.event.Access.{Access}
use Rattle.ppd_sem.specs.declared.event.Event.{Event}
use Rattle.ppd_sem.specs.declared.event.Spot.{Spot}
use Rattle.ppd_sem.specs.declared.event.Spot.TheVariants.{Local, Shared}
use Rattle.ppd_sem.specs.declared.proc.Proc.{Proc}
use Rattle.ppd_sem.specs.Process.{act, started}
use Rattle.ppd_sem.specs.Described.{is_event}
use Rattle.ppd_model.specs.declared.trace.TracedEvent.{TracedEvent}
use Rattle.ppd_model.specs.FullTrace.{Tag, event_of, tracing_of}
use Rattle.ppd_model.specs.Story.{Story, Taken}

-- ---- the run

-- the events of a process's steps from a state on: the statements that finished or trapped, in order
abbrev pub own_events : Program → Plan → Proc → List Taken → List Event
own_events program plan s [] = []
own_events program plan s (x ∷ xs) =
    if is_event x.need then event_of program plan s x s.todo ∷ own_events program plan (act program plan s x.answer) xs
    else own_events program plan (act program plan s x.answer) xs

-- without writers, parents and pairs, a trace is what the process did
abbrev pub TracesTellRuns : Type 0
TracesTellRuns =
    (setting : Setting) (story : Story) (p : ℕ) (steps : List Taken)
    → map (λ e. e.event) (tracing_of setting story p steps).events
    ≡ own_events setting.program setting.plan (started setting.program setting.plan p setting.budget) steps

-- ---- earlier events

-- an event of process p with a number below k, or none
abbrev pub IsEarlier : ℕ → ℕ → Tag → Type 0
IsEarlier p k None = ⊤
IsEarlier p k (Some e) = (e.process ≡ p) × (e.number < k)

-- the writer of a local cell is such an event
abbrev pub IsEarlierAt : ℕ → ℕ → Spot → Tag → Type 0
IsEarlierAt p k (Local frame c) w = IsEarlier p k w
IsEarlierAt p k (Shared c) w = ⊤

-- as many writers as reads, and those of local cells are such events
abbrev pub AreEarlier : ℕ → ℕ → List Access → List Tag → Type 0
AreEarlier p k [] [] = ⊤
AreEarlier p k [] (w ∷ ws) = ⊥
AreEarlier p k (a ∷ as') [] = ⊥
AreEarlier p k (a ∷ as') (w ∷ ws) = IsEarlierAt p k a.spot w × AreEarlier p k as' ws

-- what event number k of process p names of its own process is earlier
pub record NamesEarlier (p k : ℕ) (e : TracedEvent) : Type 0 where
  pub writers : AreEarlier p k e.event.reads e.writers
  pub parent : IsEarlier p k e.parent

-- so it is with each of these events, whose numbers go from k on
abbrev pub EachNamesEarlier : ℕ → ℕ → List TracedEvent → Type 0
EachNamesEarlier p k [] = ⊤
EachNamesEarlier p k (e ∷ es) = NamesEarlier p k e × EachNamesEarlier p (k + 1) es

-- so it is with each event of a trace
abbrev pub TracesNameEarlierEvents : Type 0
TracesNameEarlierEvents =
    (setting : Setting) (story : Story) (p : ℕ) (steps : List Taken)
    → EachNamesEarlier p 0 (tracing_of setting story p steps).events
