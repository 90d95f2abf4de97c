-- What the rows state of a record, of a process's intervals and of all the items of an interval.
use Rattle.ppd_model.specs.Setting.{Setting}
use Rattle.std.specs.Prelude.{ℕ, Bool, List, map, Option}
use Rattle.std.specs.List.{range_with_len}
use Rattle.ppd_ast.specs.declared.status.SyncKind.{SyncKind}
use Rattle.ppd_model.specs.declared.flow.FlowEdge.{FlowEdge}
use Rattle.ppd_model.specs.declared.tracing.Story.{Story}
use Rattle.ppd_model.specs.Synchronizations.{Sync}
use Rattle.ppd_model.specs.Record.{SharedAccess}
use Rattle.ppd_model.specs.Intervals.{intervals}
use Rattle.ppd_model.specs.FlowbackEdges.{edges}
use Rattle.ppd_model.specs.NearIntervals.{near_steps}

-- a synchronization
abbrev pub synced : SyncKind → ℕ → ℕ → Sync
synced kind object number = record { kind = kind; object = object; number = number }

-- a write of a shared cell in this edge, or a read of it
abbrev pub touched : ℕ → ℕ → Bool → SharedAccess
touched edge cell writes = record { edge = edge; cell = cell; writes = writes }

-- an interval without its items: its block, the intervals round it with the innermost first, the
-- numbers of the steps that wrote its prelog and its postlog, and how many steps are its own
pub record Extent : Type 0 where
  pub block : ℕ
  pub round : List ℕ
  pub opened : ℕ
  pub closed : Option ℕ
  pub steps : ℕ

abbrev pub extent : ℕ → List ℕ → ℕ → Option ℕ → ℕ → Extent
extent block round opened closed steps = record { block = block; round = round; opened = opened; closed = closed; steps = steps }

-- all intervals of process p
abbrev pub extents : Setting → Story → ℕ → List Extent
extents setting story p =
    map (λ i. extent i.block i.round i.opened i.closed i.steps) (intervals setting story p)

-- the edges of the first n items of interval k of process p, and None for each that is not there
abbrev pub whys : Setting → Story → ℕ → ℕ → ℕ → List (Option (List FlowEdge))
whys setting story p k n = map (edges setting story p k) (range_with_len 0 n)

-- of each of the first n items, the own steps of the intervals near to it
abbrev pub nears : Setting → Story → ℕ → ℕ → ℕ → List ℕ
nears setting story p k n = map (near_steps setting story p k) (range_with_len 0 n)
