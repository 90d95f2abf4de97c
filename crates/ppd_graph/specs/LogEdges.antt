-- The internal edges of logs, of which they tell the record and the sets, and the cells that these name.
use Rattle.std.specs.Prelude.{◌≡◌, ◌<◌, ◌≤◌, ℕ, Bool, true, false, List, [], length, get_or}
use Rattle.ppd_ast.specs.declared.program.Program.{Program}
use Rattle.ppd_ast.specs.Members.{has}
use Rattle.ppd_model.specs.declared.entry.Logs.{Logs}
use Rattle.ppd_graph.specs.Graphs.{sets_at}
use Rattle.ppd_graph.specs.LogRecord.{edge_sets_in}
use Rattle.ppd_graph.specs.declared.sets.EdgeSets.{EdgeSets}
use Rattle.ppd_model.specs.declared.graph.EdgeId.{EdgeId}
use Rattle.ppd_model.specs.HappenedBefore.{is_edge_before}
use Rattle.ppd_model.specs.Races.{Edges}
use Rattle.ppd_model.specs.RecordedSets.{record_in}

-- the cells that an edge writes, or those that it reads
abbrev pub cells_by : Bool → EdgeSets → List ℕ
cells_by true sets = sets.writes
cells_by false sets = sets.reads

-- the edges of logs
abbrev pub edges_of_logs : Program → Logs → Edges
edges_of_logs program logs = record {
  processes = length logs.lists;
  cells = length program.starts;
  count = λ p. length (get_or (edge_sets_in logs) p []);
  accesses = λ a cell writes. has (cells_by writes (sets_at (edge_sets_in logs) a)) cell;
  before = is_edge_before program (record_in logs);
}

-- an edge that is there
abbrev pub IsThere : Edges → EdgeId → Type 0
IsThere e a = (a.process < e.processes) × (a.edge < e.count a.process)

-- each cell that the logs name for an edge is one of the program's
abbrev pub AreCellsThere : Program → Logs → Type 0
AreCellsThere program logs =
    (a : EdgeId) (c : ℕ) (w : Bool) → length program.starts ≤ c → IsThere (edges_of_logs program logs) a
    → has (cells_by w (sets_at (edge_sets_in logs) a)) c ≡ false
