-- The races of logs, and those of a graph: each is the list of the races among its edges.
use Rattle.ppd_model.specs.Setting.{Setting}
use Rattle.std.specs.Prelude.{◌≡◌, ℕ, ◌≤◌, List, length}
use Rattle.ppd_ast.specs.declared.limits.TheConstants.{MOST_SHARED_CELLS}
use Rattle.ppd_ast.specs.declared.program.Program.{Program}
use Rattle.ppd_ast.specs.Members.{has}
use Rattle.ppd_ast.specs.Valid.{IsValid}
use Rattle.ppd_model.specs.declared.entry.Logs.{Logs}
use Rattle.ppd_model.specs.declared.graph.Race.{Race}
use Rattle.ppd_model.specs.Logs.{closed_logs}
use Rattle.ppd_model.specs.Races.{Edges, races}
pub use Rattle.ppd_model.specs.Races.{races_among}
use Rattle.ppd_race_found.specs.SyncGraph.{SyncGraph}
use Rattle.ppd_race_found.specs.Graphs.{IsGraphOf, edge_count, is_before_by, sets_at}
pub use Rattle.ppd_race_found.specs.LogEdges.{AreCellsThere, IsThere, cells_by, edges_of_logs}

-- no program has more shared cells
unfoldable pub most_cells : ℕ
most_cells = MOST_SHARED_CELLS

-- those of a graph, over as many cells as there can be
abbrev pub edges_of_graph : SyncGraph → Edges
edges_of_graph g = record {
  processes = length g.edges;
  cells = most_cells;
  count = edge_count g;
  accesses = λ a cell writes. has (cells_by writes (sets_at g.edges a)) cell;
  before = is_before_by g;
}

-- ---- one list for two

-- the races of the graph of logs are those of their record and sets
abbrev pub GraphRacesAreOfLogs : Type 0
GraphRacesAreOfLogs =
    (program : Program) (logs : Logs) (g : SyncGraph) → IsGraphOf program logs g → length program.starts ≤ most_cells
    → AreCellsThere program logs
    → races_among (edges_of_graph g) ≡ races_among (edges_of_logs program logs)

-- the list is that of every logs of which the graph is the graph
abbrev pub AreRacesOf : SyncGraph → List Race → Type 0
AreRacesOf g races =
    (program : Program) (logs : Logs) → IsGraphOf program logs g → length program.starts ≤ most_cells
    → AreCellsThere program logs → races ≡ races_among (edges_of_logs program logs)

-- the races of the logs of a schedule, whole or not, are those of the schedule, and its logs name cells of the
-- program alone
abbrev pub RunRacesAreOfLogs : Type 0
RunRacesAreOfLogs =
    (setting : Setting) (h : List ℕ) → IsValid setting.program
    → (races_among (edges_of_logs setting.program (closed_logs setting h)) ≡ races setting h)
    × AreCellsThere setting.program (closed_logs setting h)
