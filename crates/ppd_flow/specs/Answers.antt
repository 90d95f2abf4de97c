-- What the search for the edges of an item answers.
use Rattle.std.specs.Prelude.{ℕ, List, Option, Some, None, Result, Err, slice_get}
use Rattle.ppd_sem.specs.declared.event.Access.{Access}
use Rattle.ppd_sem.specs.declared.event.Spot.{Spot}
use Rattle.ppd_model.specs.declared.flow.FlowEdge.{FlowEdge}
use Rattle.ppd_model.specs.declared.flow.Origin.{Origin}
use Rattle.ppd_graph.specs.Found.{found_edges, read_edges, read_origin, sync_edges}
use Rattle.ppd_graph.specs.Looked.{Looked, look_map}
use Rattle.ppd_graph.specs.Shared.{Missing}
use Rattle.ppd_model.specs.declared.flow_error.FlowError.{FlowError}
use Rattle.ppd_model.specs.declared.flow_error.FlowError.TheVariants.{NoEvent}
use Rattle.ppd_flow_past.specs.declared.past.Past.{Past}
use Rattle.ppd_flow_past.specs.ByReplays.{IsFoundBy}
use Rattle.ppd_flow_shared.specs.SharedCells.{answer_of, seens_in}
pub use Rattle.ppd_flow_shared.specs.SharedCells.{BlockTables}
pub use Rattle.ppd_flow_shared.specs.declared.last.LastEdge.{LastEdge}
use Rattle.ppd_flow_local.specs.declared.search.Place.{Place}
use Rattle.ppd_flow_local.specs.declared.search.Search.{Search}

-- ---- of a past

-- the edges of an item, or that there is no such item, or the entry of a write that is missing
abbrev pub answer_if : Option (Result (List FlowEdge) Missing) → Result (List FlowEdge) FlowError
answer_if None = Err NoEvent
answer_if (Some r) = answer_of r

-- this is what is answered for item j of interval k of process p
abbrev pub IsEdges : Past → (p k j before after : ℕ) → Result (List FlowEdge) FlowError → Type 0
IsEdges past p k j before after result =
    let search = found_edges past.program.now past.plan.now past.logs.now (seens_in past) p k j in
    IsFoundBy past search.replays (answer_if search.found) before after result

-- ---- of a place

-- where a spot that is read was written
abbrev pub spot_origin : Search → Place → Spot → Looked (ℕ × ℕ) (Result Origin Missing)
spot_origin s place spot =
    read_origin s.past.now.program.now s.past.now.plan.now s.past.now.logs.now (seens_in s.past.now) s.process
    place.interval place.item spot

-- the edges of these reads there
abbrev pub reads_at : Search → Place → List Access → Looked (ℕ × ℕ) (Result (List FlowEdge) Missing)
reads_at s place reads =
    read_edges s.past.now.program.now s.past.now.plan.now s.past.now.logs.now (seens_in s.past.now) s.process
    place.interval place.item reads

-- the edge from the pair, where there are a number and a pair
abbrev pub pair_edge_at : Search → Place → Option ℕ → Looked (ℕ × ℕ) (Option FlowEdge)
pair_edge_at s place number =
    look_map (λ es. slice_get es 0)
    (sync_edges s.past.now.program.now s.past.now.logs.now (seens_in s.past.now) s.process place.interval place.item
    number)
