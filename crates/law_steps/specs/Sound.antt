-- In every run, each value that is read and each control comes over a static edge.
use Rattle.ppd_model.specs.Setting.{Setting}
use Rattle.ppd_ast.specs.Cells.{holds}
use Rattle.ppd_ast.specs.Lookups.{body_numbered, body_of, kind_of}
use Rattle.ppd_ast.specs.Valid.{IsValid}
use Rattle.ppd_ast.specs.declared.limits.TheConstants.{MOST_LOCAL_CELLS, MOST_SHARED_CELLS}
use Rattle.ppd_ast.specs.declared.program.Program.{Program}
use Rattle.ppd_ast.specs.declared.program.Var.{Var}
use Rattle.ppd_deps.specs.Edges.{edges_of}
use Rattle.ppd_deps.specs.declared.edges.StaticEdge.{StaticEdge}
use Rattle.ppd_deps.specs.declared.edges.StaticEdge.TheVariants.{Control, ControlEntry, Data}
use Rattle.ppd_model.specs.FullTrace.{full_trace}
use Rattle.ppd_model.specs.Parents.{is_choice}
use Rattle.ppd_model.specs.Story.{story}
use Rattle.ppd_model.specs.declared.trace.EventId.{EventId}
use Rattle.ppd_model.specs.declared.trace.Trace.{Trace}
use Rattle.ppd_model.specs.declared.trace.TracedEvent.{TracedEvent}
use Rattle.ppd_sem.specs.declared.event.Access.{Access}
use Rattle.ppd_sem.specs.declared.event.Spot.{Spot}
use Rattle.ppd_sem.specs.declared.event.Spot.TheVariants.{Local, Shared}
use Rattle.std.specs.List.{All, Contains}
use Rattle.std.specs.Prelude.{Bool, IsTrue, List, None, Option, Some, [], false, get_or, if◌then◌else◌, length, slice_get, true, unwrap_or, ℕ, ◌<◌, ◌≡◌, ◌≤◌}

-- ---- events

-- event number n of process p
abbrev pub event_at : Trace → (p n : ℕ) → Option TracedEvent
event_at trace p n = slice_get (get_or trace.events p []) n

-- the event of this name is there, and is of statement s
pub record IsEventOf (trace : Trace) (id : EventId) (s : ℕ) : Type 0 where
  pub event : TracedEvent
  pub there : event_at trace id.process id.number ≡ Some event
  pub stmt_is : event.event.stmt ≡ s

-- ---- control

-- the edge of a control parent, which is an event of statement s: `Control` where it is a test, and `ControlEntry`
-- where it is none, as the call of the function
abbrev pub control_edge : Program → ℕ → StaticEdge
control_edge program s = if is_choice (kind_of program s) then Control s else ControlEntry

-- the event is of some statement, from which the edge of a control parent leads to statement t
pub record ControlsOverEdge (program : Program) (trace : Trace) (id : EventId) (t : ℕ) : Type 0 where
  pub from : ℕ
  pub is_of : IsEventOf trace id from
  pub edge : Contains (edges_of program t) (control_edge program from)

-- where control has no parent it is the entry's
abbrev pub ComesOverControl : Program → Trace → Option EventId → (t : ℕ) → Type 0
ComesOverControl program trace None t = Contains (edges_of program t) ControlEntry
ComesOverControl program trace (Some id) t = ControlsOverEdge program trace id t

-- in the trace of every schedule of a valid program, whole or not and with whatever plan, a control parent that is a
-- test lies over a `Control` edge from its statement, and every other one over `ControlEntry`
abbrev pub ControlComesOverEdges : Type 0
ControlComesOverEdges =
    (setting : Setting) (h : List ℕ) (p n : ℕ) (e : TracedEvent) → IsValid setting.program
    → event_at (full_trace setting (story setting h)) p n ≡ Some e
    → ComesOverControl setting.program (full_trace setting (story setting h)) e.parent e.event.stmt

-- ---- data

-- the cell is one of variable number v of these
pub record IsCellOfVariable (vars : List Var) (v c : ℕ) : Type 0 where
  pub variable : Var
  pub there : slice_get vars v ≡ Some variable
  pub held : IsTrue (holds c variable)

-- the event is of some statement, from which a `Data` edge leads to statement t, of the variable whose cell it is; an
-- edge numbers its variable by 16 bits
pub record WritesOverEdge (program : Program) (trace : Trace) (id : EventId) (t : ℕ)
    (is_shared : Bool) (vars : List Var) (c : ℕ) : Type 0 where
  pub from : ℕ
  pub is_of : IsEventOf trace id from
  pub var : ℕ
  pub is_cell : IsCellOfVariable vars var c
  pub edge : var < 65536 → Contains (edges_of program t) (Data from is_shared var)

-- what statement t reads at a place: a local cell is of a variable of its body, a shared one of a shared variable
abbrev pub ComesOverData : Program → Trace → EventId → (t : ℕ) → Spot → Type 0
ComesOverData program trace id t (Local frame c) =
    WritesOverEdge program trace id t false (body_numbered program (body_of program t)).locals c
ComesOverData program trace id t (Shared c) = WritesOverEdge program trace id t true program.shared c

-- read number i of the event has a writer
pub record HasWriter (e : TracedEvent) (i : ℕ) (a : Access) (id : EventId) : Type 0 where
  pub read : slice_get e.event.reads i ≡ Some a
  pub writer : slice_get e.writers i ≡ Some (Some id)

-- in the trace of every schedule of a valid program, whole or not and with whatever plan, the value of a local cell
-- that an event reads comes over a `Data` edge from the statement of its writer: from the one that wrote the cell, from
-- the call whose parameter it is, or from the `Return` whose value it received
abbrev pub LocalReadsComeOverEdges : Type 0
LocalReadsComeOverEdges =
    (setting : Setting) (h : List ℕ) (p n : ℕ) (e : TracedEvent)
    (i : ℕ) (a : Access) (id : EventId) (frame c : ℕ)
    → IsValid setting.program → event_at (full_trace setting (story setting h)) p n ≡ Some e
    → HasWriter e i a id
    → a.spot ≡ Local frame c
    → ComesOverData setting.program (full_trace setting (story setting h)) id e.event.stmt
    (Local frame c)

-- so does the value of a shared cell
abbrev pub SharedReadsComeOverEdges : Type 0
SharedReadsComeOverEdges =
    (setting : Setting) (h : List ℕ) (p n : ℕ) (e : TracedEvent)
    (i : ℕ) (a : Access) (id : EventId) (c : ℕ)
    → IsValid setting.program → event_at (full_trace setting (story setting h)) p n ≡ Some e
    → HasWriter e i a id
    → a.spot ≡ Shared c
    → ComesOverData setting.program (full_trace setting (story setting h)) id e.event.stmt (Shared c)

-- so does every value that is read
abbrev pub ReadsComeOverEdges : Type 0
ReadsComeOverEdges =
    (setting : Setting) (h : List ℕ) (p n : ℕ) (e : TracedEvent)
    (i : ℕ) (a : Access) (id : EventId)
    → IsValid setting.program → event_at (full_trace setting (story setting h)) p n ≡ Some e
    → HasWriter e i a id
    → ComesOverData setting.program (full_trace setting (story setting h)) id e.event.stmt a.spot

-- ---- numbers of variables

-- each of these variables has a cell: none is an empty array
abbrev pub HaveCells : List Var → Type 0
HaveCells vars = All (λ x. 0 < unwrap_or x.len 1) vars

-- where they do, the variables are no more than the cells may be, so that each has a number of 16 bits
pub record HasFewVariables (program : Program) : Type 0 where
  pub shared : HaveCells program.shared → length program.shared ≤ MOST_SHARED_CELLS
  pub local : (b : ℕ) → HaveCells (body_numbered program b).locals
      → length (body_numbered program b).locals ≤ MOST_LOCAL_CELLS

abbrev pub VariablesAreFew : Type 0
VariablesAreFew = (program : Program) → IsValid program → HasFewVariables program
