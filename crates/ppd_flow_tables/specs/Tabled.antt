-- What the tables that are at hand have to do with a past.
use Rattle.std.specs.Prelude.{◌≡◌, ℕ, nat_eq, ◌&&◌, List, [], get_or, slice_get, Option, Some, None, if◌then◌else◌, ⊤}
use Rattle.ppd_flow_local_tables.specs.Tables.{IsTableOf}
use Rattle.ppd_flow_past.specs.declared.past.Past.{Past}
use Rattle.ppd_flow_past.specs.Pasts.{IsPast}
use Rattle.ppd_flow_past.specs.SeenBy.{items_in}
use Rattle.ppd_flow_tables.specs.declared.edge_table.EdgeTable.{EdgeTable}
use Rattle.ppd_flow_tables.specs.Tables.{IsEdgeTable, IsPlaceTable}
use Rattle.ppd_flow_tables.specs.declared.by_cell.WritingEdges.{WritingEdges}
use Rattle.ppd_flow_tables.specs.Writing.{AreWritingEdges}
use Rattle.ppd_flow_tables.specs.declared.block.BlockTables.{BlockTables}
use Rattle.ppd_flow_tables.specs.declared.kept.KeptTables.{KeptTables}
use Rattle.ppd_flow_tables.specs.declared.process.ProcessTables.{ProcessTables}
use Rattle.ppd_flow_tables.specs.declared.tables.Tables.{Tables}
use Rattle.ppd_flow_tables.specs.declared.tables.Tables.TheVariants.{Nothing, Block, Kept}

-- ---- what is at hand

abbrev pub blocks_of : Option ProcessTables → List BlockTables
blocks_of None = []
blocks_of (Some t) = t.blocks

abbrev pub edges_of : Option ProcessTables → Option EdgeTable
edges_of None = None
edges_of (Some t) = Some t.edges

-- the tables of interval k of process p, if they are at hand
abbrev pub block_in : Tables → (p k : ℕ) → Option BlockTables
block_in Nothing p k = None
block_in (Block q m t) p k = if nat_eq p q && nat_eq k m then Some t.now else None
block_in (Kept ts w) p k = slice_get (blocks_of (get_or ts.now p None)) k

-- the table of the internal edges of process p, if it is at hand
abbrev pub edges_in : Tables → ℕ → Option EdgeTable
edges_in Nothing p = None
edges_in (Block q m t) p = None
edges_in (Kept ts w) p = edges_of (get_or ts.now p None)

-- the edges that write each cell, if they are at hand
abbrev pub writing_in : Tables → Option WritingEdges
writing_in Nothing = None
writing_in (Block q m t) = None
writing_in (Kept ts w) = Some w.now

-- ---- of a past

-- these are the tables of interval k of process p
abbrev pub IsOfInterval : Past → (p k : ℕ) → BlockTables → Type 0
IsOfInterval past p k t =
    IsTableOf past.program.now past.plan.now (items_in past p k) t.locals
    × IsPlaceTable (get_or past.logs.now.lists p []) k (items_in past p k) t.places

-- those of its first intervals
abbrev pub AreOfFirst : Past → ℕ → List BlockTables → Type 0
AreOfFirst past p ts = (k : ℕ) (t : BlockTables) → slice_get ts k ≡ Some t → IsOfInterval past p k t

-- those of process p
abbrev pub AreOfProcess : Past → ℕ → ProcessTables → Type 0
AreOfProcess past p t = IsEdgeTable (get_or past.logs.now.lists p []) t.edges × AreOfFirst past p t.blocks

-- whatever is there are the tables of the process of that number
abbrev pub AreOfProcesses : Past → List (Option ProcessTables) → Type 0
AreOfProcesses past ts = (p : ℕ) (t : ProcessTables) → get_or ts p None ≡ Some t → AreOfProcess past p t

-- whatever is at hand are tables of the past
abbrev pub AreTablesOf : Past → Tables → Type 0
AreTablesOf past Nothing = ⊤
AreTablesOf past (Block p k t) = IsOfInterval past p k t.now
AreTablesOf past (Kept ts w) = AreOfProcesses past ts.now × AreWritingEdges past.graph.now.edges w.now

-- so are those that are kept
pub record AreKeptTables (past : Past) (kept : KeptTables) : Type 0 where
  pub processes : AreOfProcesses past kept.processes
  pub writing : AreWritingEdges past.graph.now.edges kept.writing

-- the parts of the past belong together, and the tables are its own
pub record IsTabled (past : Past) (tables : Tables) : Type 0 where
  pub past_is : IsPast past
  pub tables_are : AreTablesOf past tables
