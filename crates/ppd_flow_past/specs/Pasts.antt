-- What belongs together in what is kept of a run.
use Rattle.ppd_model.specs.Setting.{Setting}
use Rattle.ppd_ast.specs.Valid.{IsValid}
use Rattle.ppd_ast.specs.ValidPlan.{IsValidPlan}
use Rattle.ppd_emul.specs.Fitting.{AreFittingLogs}
use Rattle.ppd_emul.specs.Indexes.{IsIndexOf}
use Rattle.ppd_emul.specs.LogIndex.{LogIndex}
use Rattle.ppd_model.specs.declared.entry.Logs.{Logs}
use Rattle.ppd_flow_past.specs.PastSetting.{past_setting}
use Rattle.ppd_flow_past.specs.SeenBy.{failed_at, seen_by}
use Rattle.ppd_flow_past.specs.declared.past.Past.{Past}
use Rattle.ppd_model.specs.declared.flow.Item.{Item}
use Rattle.ppd_graph.specs.Graphs.{IsGraphOf}
use Rattle.ppd_graph.specs.LogEdges.{AreCellsThere}
use Rattle.ppd_graph.specs.declared.sync_graph.SyncGraph.{SyncGraph}
use Rattle.std.specs.Prelude.{List, None, Option, Some, [], get_or, slice_get, ℕ, ◌≡◌}

-- the items that are kept of interval k of process p, if they are
abbrev pub items_kept : List (List (List Item)) → (p k : ℕ) → Option (List Item)
items_kept kept p k = slice_get (get_or kept p []) k

-- whatever is kept of an interval are the items of its replay, which does not fail
abbrev pub AreKept : Setting → Logs → List (List (List Item)) → Type 0
AreKept setting logs kept =
    (p k : ℕ) (items : List Item) → items_kept kept p k ≡ Some items
    → (failed_at setting (get_or logs.lists p []) k ≡ None)
    × (items ≡ get_or (seen_by setting (get_or logs.lists p [])).items k [])

-- a program and a plan that are valid, logs that name cells of the program, with their index and their graph, the logs
-- that are replayed with their index, which accepted them, and the items that are kept of their replays
pub record BelongTogether (setting : Setting) (logs : Logs) (index : LogIndex) (graph : SyncGraph)
    (cut : Logs) (cut_index : LogIndex) (kept : List (List (List Item))) : Type 0 where
  pub program_ok : IsValid setting.program
  pub plan_ok : IsValidPlan setting.program setting.plan
  pub cells : AreCellsThere setting.program logs
  pub index_is : IsIndexOf setting.plan logs index.tables
  pub graph_is : IsGraphOf setting.program logs graph
  pub cut_index_is : IsIndexOf setting.plan cut cut_index.tables
  pub fitting : AreFittingLogs setting.plan cut
  pub kept_are : AreKept setting cut kept

-- so do the parts of a past
abbrev pub IsPast : Past → Type 0
IsPast past =
    BelongTogether (past_setting past) past.logs.now past.index.now past.graph.now past.cut.now past.cut_index.now
    past.kept.now
