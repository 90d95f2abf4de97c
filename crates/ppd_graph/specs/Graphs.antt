-- What a graph answers.
use Rattle.std.specs.Prelude.{◌≡◌, ◌↔◌, ℕ, zero, suc, ◌^◌, ◌<◌, ◌≤◌, nat_eq, nat_lt, Bool, List, [], length, get_or, IsTrue, if◌then◌else◌}
use Rattle.ppd_ast.specs.declared.program.Program.{Program}
use Rattle.ppd_model.specs.declared.entry.Logs.{Logs}
use Rattle.ppd_model.specs.declared.graph.EdgeId.{EdgeId}
use Rattle.ppd_model.specs.HappenedBefore.{Before, EdgeBefore, node}
use Rattle.ppd_graph.specs.declared.sync_graph.SyncGraph.{SyncGraph}
use Rattle.ppd_graph.specs.declared.sets.EdgeSets.{EdgeSets}
use Rattle.ppd_model.specs.RecordedSets.{record_in}
use Rattle.ppd_graph.specs.LogRecord.{no_sets, edge_sets_in}
use Rattle.ppd_model.specs.declared.graph.NodeId.{NodeId}
use Rattle.ppd_model.specs.Synchronizations.{Sync}
use Rattle.ppd_graph.specs.declared.paired.Paired.{Paired}
use Rattle.ppd_graph.specs.Partners.{pairs_of}
use Rattle.ppd_graph.specs.Times.{ArePartners, AreTimed, HasAll, time_at}

-- the internal edges of process p
abbrev pub edge_count : SyncGraph → ℕ → ℕ
edge_count g p = length (get_or g.edges p [])

-- the graph has this edge
abbrev pub IsEdge : SyncGraph → EdgeId → Type 0
IsEdge g e = e.edge < edge_count g e.process

-- the count of process p in the time of the one that begins edge j of process q
abbrev pub count_at : List (List (List ℕ)) → ℕ → ℕ → ℕ → ℕ
count_at times q zero p = 0
count_at times q (suc j) p = time_at times (node q j) p

-- whether edge a is before edge b by these times
abbrev pub before_by : List (List (List ℕ)) → EdgeId → EdgeId → Bool
before_by times a b =
    if nat_eq a.process b.process then nat_lt a.edge b.edge
    else nat_lt a.edge (count_at times b.process b.edge a.process)

-- whether edge a is before edge b
abbrev pub is_before_by : SyncGraph → EdgeId → EdgeId → Bool
is_before_by g a b = before_by g.times a b

abbrev pub sets_at : List (List EdgeSets) → EdgeId → EdgeSets
sets_at sets e = get_or (get_or sets e.process []) e.edge no_sets

-- the cells that an edge reads
abbrev pub reads_in : SyncGraph → EdgeId → List ℕ
reads_in g e = (sets_at g.edges e).reads

-- the cells that an edge writes
abbrev pub writes_in : SyncGraph → EdgeId → List ℕ
writes_in g e = (sets_at g.edges e).writes

-- the graph of logs: its edges have their recorded sets, and are ordered as their synchronizations are; each
-- synchronization has its direct partner
pub record IsGraphOf (program : Program) (logs : Logs) (g : SyncGraph) : Type 0 where
  pub sets : g.edges ≡ edge_sets_in logs
  pub few : (p : ℕ) → edge_count g p < 2 ^ 32
  pub order : (a b : EdgeId) → IsEdge g a → IsEdge g b
      → IsTrue (is_before_by g a b) ↔ EdgeBefore program (record_in logs) a b
  pub rising : (p q j k : ℕ) → p < length g.edges → j ≤ k → k < edge_count g q
      → count_at g.times q j p ≤ count_at g.times q k p
  pub pairs : g.pairs ≡ pairs_of program (record_in logs)
  pub partners : ArePartners program (record_in logs) g.pairs

-- where every synchronization has its time, the times order the edges, and nothing happens before itself
abbrev pub TimesOrderEdges : Type 0
TimesOrderEdges =
    (program : Program) (syncs : List (List Sync)) (pairs : List (List Paired)) (times : List (List (List ℕ)))
    → ArePartners program syncs pairs → AreTimed pairs times → ((q : ℕ) → HasAll pairs times q)
    → ((a : NodeId) → Before program syncs a a → ⊥)
    × ((a b : EdgeId) → a.process < length syncs → b.edge ≤ length (get_or syncs b.process [])
    → IsTrue (before_by times a b) ↔ EdgeBefore program syncs a b)
