-- The past of a run that came to its end.
use Rattle.ppd_model.specs.Setting.{Setting}
use Rattle.ppd_codec_runs.proofs.Keeping.{nothing_kept}
use Rattle.ppd_codec_runs.specs.Pasts.{BelongTogether}
use Rattle.ppd_graph.specs.Graphs.{IsGraphOf}
use Rattle.ppd_graph.specs.declared.sync_graph.SyncGraph.{SyncGraph}
use Rattle.ppd_index.specs.Fitting.{AreFittingLogs}
use Rattle.ppd_index.specs.Indexes.{IsIndexOf}
use Rattle.ppd_index.specs.declared.log_index.LogIndex.{LogIndex}
use Rattle.ppd_model.specs.declared.closed.Closed.{Closed}
use Rattle.ppd_top_runs.proofs.ToldRuns.Told.{told_cells}
use Rattle.ppd_top_runs.specs.Runs.{CanBeTold}
use Rattle.std.proofs.Common.{[], ℕ}

-- with their index and graph they are what a session is about
pub together : (setting : Setting) (closed : Closed) (index : LogIndex) (graph : SyncGraph) → CanBeTold setting closed → IsIndexOf setting.plan closed.logs index.tables → AreFittingLogs setting.plan closed.logs → IsGraphOf setting.program closed.logs graph → BelongTogether setting closed.logs index graph closed.logs index []
together setting closed index graph t i f k = record {
  program_ok = t.program_ok;
  plan_ok = t.plan_ok;
  cells = told_cells setting closed t;
  index_is = i;
  cut_index_is = i;
  fitting = f;
  graph_is = k;
  kept_are = nothing_kept setting closed.logs;
}
