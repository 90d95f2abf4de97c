-- What the search for where a shared cell was written answers.
use Rattle.ppd_flow_past.specs.PastSetting.{past_setting}
use Rattle.std.specs.Prelude.{◌≡◌, ℕ, ℤ, List, [], ◌∷◌, map, Option, Some, None, option_map, Result, Ok, Err, ⊤, get_or}
use Rattle.ppd_model.specs.declared.flow.Item.{Item}
use Rattle.ppd_model.specs.declared.flow.Origin.{Origin}
use Rattle.ppd_model.specs.declared.flow.Origin.TheVariants as origin
use Rattle.ppd_model.specs.declared.graph.EdgeId.{EdgeId}
use Rattle.ppd_model.specs.declared.graph.NodeId.{NodeId}
use Rattle.ppd_flow_tables.specs.FlowError.{FlowError}
use Rattle.ppd_flow_tables.specs.FlowError.TheVariants.{Sets, Memory}
use Rattle.ppd_flow_tables.specs.Past.{Past}
use Rattle.ppd_flow_tables.specs.ByReplays.{AreReplayed, IsFoundBy}
use Rattle.ppd_flow_tables.specs.Pasts.{IsPast}
use Rattle.ppd_flow_tables.specs.SeenBy.{items_in, seen_by, seen_in}
use Rattle.ppd_graph.specs.Ends.{end_interval, end_item}
use Rattle.ppd_graph.specs.Looked.{Looked}
use Rattle.ppd_graph.specs.Seen.{Seen}
use Rattle.ppd_graph.specs.Shared.{Missing, found_last, greatest_writing, in_process}
use Rattle.ppd_graph.specs.Walk.{walk}
use Rattle.ppd_graph.specs.declared.walked.Walked.{Walked}
use Rattle.ppd_graph.specs.declared.walked.Walked.TheVariants.{Found}
pub use Rattle.ppd_flow_tables.specs.declared.block.BlockTables.{BlockTables}
use Rattle.ppd_flow_shared.specs.declared.edge_end.EdgeEnd.{EdgeEnd}
use Rattle.ppd_flow_shared.specs.declared.last.LastEdge.{LastEdge}

-- what the replays of each process of a past give
abbrev pub seens_in : Past → List Seen
seens_in past = map (λ entries. seen_by (past_setting past) entries) past.cut.now.lists

-- a write that is missing is the error that names its entry
abbrev pub answer_of : {A : Type 0} → Result A Missing → Result A FlowError
answer_of (Ok x) = Ok x
answer_of (Err m) = Err (Sets m.process m.entry m.cell)

-- what this search finds, by the intervals that it replays
abbrev pub IsSought : {A : Type 0} → Past → Looked (ℕ × ℕ) A → (before after : ℕ) → Result A FlowError → Type 0
IsSought past search before after result = IsFoundBy past search.replays (Ok search.found) before after result

-- the same, or the write that is missing
abbrev pub IsAnswerTo : {A : Type 0} → Past → Looked (ℕ × ℕ) (Result A Missing) → (before after : ℕ)
    → Result A FlowError → Type 0
IsAnswerTo past search before after result =
    IsFoundBy past search.replays (answer_of search.found) before after result

-- want of memory is answered, or this
abbrev pub IsMemoryOr : {A : Type 0} → Result A FlowError → Result A FlowError → Type 0
IsMemoryOr answer (Err Memory) = ⊤
IsMemoryOr answer result = result ≡ answer

-- this edge, unless the walk found a write
abbrev pub edge_unless_found : Walked → Option EdgeId → Option EdgeId
edge_unless_found (Found k i v) best = None
edge_unless_found w best = best

-- where an edge of a past ends
abbrev pub edge_end_of : Past → EdgeId → EdgeEnd
edge_end_of past e =
    let entries = get_or past.logs.now.lists e.process [] in
    record {
      interval = end_interval entries e.edge;
      items = items_in past e.process (end_interval entries e.edge);
      place = end_item entries (seen_in past e.process) e.edge;
    }

-- the item that is a synchronization
abbrev pub node_origin : Past → NodeId → Origin
node_origin past a =
    let e : EdgeId = record { process = a.process; edge = a.sync } in
    origin.Item a.process (edge_end_of past e).interval (edge_end_of past e).place

-- it is found by the replay of the interval in which its edge ends
abbrev pub IsNodeFound : Past → NodeId → (before after : ℕ) → Result Origin FlowError → Type 0
IsNodeFound past a before after result =
    IsFoundBy past ((a.process, end_interval (get_or past.logs.now.lists a.process []) a.sync) ∷ []) (Ok
    (node_origin past a)) before after result

-- the interval in which this edge ends
abbrev pub with_end : Past → EdgeId → LastEdge
with_end past e = record { edge = e; interval = end_interval (get_or past.logs.now.lists e.process []) e.edge }

-- the edge with the last write of cell c, if there is one
abbrev pub last_edge : Past → ℕ → Option LastEdge
last_edge past c = option_map (with_end past) (greatest_writing past.program.now past.logs.now c)

-- of a past, whose parts belong together: this edge wrote cell c last, and the interval in which it ends has these
-- items, by a replay that does not fail
pub record AreItemsOfLast (past : Past) (c : ℕ) (edge : LastEdge) (items : List Item) : Type 0 where
  pub together : IsPast past
  pub last : last_edge past c ≡ Some edge
  pub replayed : AreReplayed past edge.edge.process edge.interval items

-- the last value of cell c with the write of it, found by the replays that the search for that write needs
abbrev pub IsLastFound : Past → (c before after : ℕ) → Result (ℤ × Origin) FlowError → Type 0
IsLastFound past c before after result =
    IsAnswerTo past (found_last past.program.now past.logs.now (seens_in past) c) before after result

-- what a walk for cell c finds from place j in interval k of process p back, found by its replays
abbrev pub IsWalked : Past → (p c k j before after : ℕ) → Result Walked FlowError → Type 0
IsWalked past p c k j before after result =
    IsSought past (in_process p (walk (seen_in past p) c k j)) before after result
