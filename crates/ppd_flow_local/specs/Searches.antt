-- What the searches within one process answer.
use Rattle.std.specs.Prelude.{◌≡◌, ℕ, ◌+◌, ◌<◌, ◌≤◌, ℤ, List, length, Option, Result, Ok, get_or, []}
use Rattle.ppd_ast.specs.declared.plan.Plan.{Plan}
use Rattle.ppd_ast.specs.declared.program.Program.{Program}
use Rattle.ppd_sem.specs.declared.event.Spot.TheVariants.{Local}
use Rattle.ppd_model.specs.declared.flow.FlowEdge.{FlowEdge}
use Rattle.ppd_model.specs.declared.flow.Origin.{Origin}
use Rattle.ppd_graph.specs.declared.writer.Writer.{Writer}
use Rattle.ppd_graph.specs.Control.{control_origin}
use Rattle.ppd_graph.specs.Locals.{in_loops, local_origin, writer_at}
use Rattle.ppd_graph.specs.Looked.{Looked, or_look}
use Rattle.ppd_graph.specs.Seen.{Seen}
use Rattle.ppd_graph.specs.Shared.{of_process}
use Rattle.ppd_flow_edges.specs.Joined.{left_at}
use Rattle.ppd_flow_tables.specs.FlowError.{FlowError}
use Rattle.ppd_flow_tables.specs.ByReplays.{IsFoundBy}
use Rattle.ppd_flow_tables.specs.SeenBy.{seen_in}
use Rattle.ppd_flow_tables.specs.Tabled.{IsTabled}
use Rattle.ppd_flow_local.specs.declared.scan.LocalCell.{LocalCell}
use Rattle.ppd_flow_local.specs.declared.search.Place.{Place}
use Rattle.ppd_flow_local.specs.declared.search.Search.{Search}

abbrev pub program_in : Search → Program
program_in s = s.past.now.program.now

abbrev pub plan_in : Search → Plan
plan_in s = s.past.now.plan.now

-- what replays of the process give
abbrev pub seen : Search → Seen
seen s = seen_in s.past.now s.process

-- the parts of the past belong together, and the tables that are at hand are its own
abbrev pub IsSearch : Search → Type 0
IsSearch s = IsTabled s.past.now s.tables

-- this is found by the replays of its intervals of the process
abbrev pub IsFound : {A : Type 0} → Search → Looked ℕ A → (before after : ℕ) → Result A FlowError → Type 0
IsFound s a before after result =
    IsFoundBy s.past.now (of_process s.process a.replays) (Ok a.found) before after result

-- the items are those of the interval, and the place is before one of them or after the last
pub record IsPlace (s : Search) (place : Place) : Type 0 where
  pub items_are : place.items.now ≡ get_or (seen s).items place.interval []
  pub within : place.item ≤ length place.items.now

-- and it is before one of them
pub record IsItemPlace (s : Search) (place : Place) : Type 0 where
  pub is : IsPlace s place
  pub there : place.item < length place.items.now

-- ---- of a local cell before a place

-- the last write in one of these loops, else that of this writer among the items of interval k, if there is one
abbrev pub written_in : Search → (k c : ℕ) → List ℕ → Writer → Looked ℕ (Option Origin)
written_in s k c loops w =
    or_look (in_loops (program_in s) (plan_in s) (seen s) s.process c loops) (writer_at (seen s) s.process k w)

-- where it was written last is found
abbrev pub IsLocalFound : Search → Place → LocalCell → (before after : ℕ) → Result Origin FlowError → Type 0
IsLocalFound s place w before after result =
    IsFound s (local_origin (program_in s) (plan_in s) (seen s) s.process place.interval place.item w.frame w.cell)
    before after result

-- the edge of a cell that a loop left with this value
abbrev pub left_from : LocalCell → ℤ → Origin → FlowEdge
left_from w v from = left_at (Local w.frame w.cell) v from

-- for a cell that the loop at a place left: the last write before the loop's end
abbrev pub left_origin_at : Search → Place → LocalCell → Looked ℕ Origin
left_origin_at s place w =
    local_origin (program_in s) (plan_in s) (seen s) s.process place.interval (place.item + 1) w.frame w.cell

-- ---- of a statement at a place

-- what let it run is found
abbrev pub IsControlFound : Search → Place → (stmt before after : ℕ) → Result Origin FlowError → Type 0
IsControlFound s place stmt before after result =
    IsFound s (control_origin (program_in s) (plan_in s) (seen s) s.process place.interval place.item stmt)
    before after result
