use Rattle.ppd_codec_runs.proofs.Same.{no_graph}
use Rattle.ppd_codec_runs.proofs.recalling.graphed.Goals as goal

pub returns-in-Ok-sync_line-clause-err : goal.returns-in-Ok-sync_line-clause-err
returns-in-Ok-sync_line-clause-err c =
    no_graph c.args.bytes.now _ c.args.recording.now c.in-Err.bad c.requires.decoded c.requires.indexed c.in-Err.ensures.refused c.in-Ok-sync_line.ensures.fault c.in-Ok-sync_line.ensures.line
