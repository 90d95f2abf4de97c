use Rattle.ppd_codec_runs.specs.Recordings.{recorded_setting}
use Rattle.ppd_session.proofs.Keeping.{nothing_kept}
use Rattle.ppd_codec_runs.proofs.Cells.{cells_there}
use Rattle.ppd_codec_runs.proofs.recalling.recall.Goals as goal

pub returns-in-Ok-clause-together : goal.returns-in-Ok-clause-together
returns-in-Ok-clause-together c =
    let r = c.in_ok-recording.recording in
    record {
      program_ok = c.in_ok-recording.ensures.program;
      plan_ok = c.in_ok-recording.ensures.plan;
      cells = cells_there r.program r.source r.header r.logs c.in_ok-recording.ensures.ok.lawful;
      index_is = c.in-Ok.ensures.index;
      cut_index_is = c.in-Ok.ensures.index;
      fitting = c.in-Ok.ensures.fitting;
      graph_is = c.in-Ok.ensures.graph;
      kept_are = nothing_kept (recorded_setting r) r.logs;
    }
