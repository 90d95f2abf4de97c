use Rattle.ppd_codec_runs.proofs.Same.{no_index}
use Rattle.ppd_codec_runs.proofs.recalling.indexed.Goals as goal

pub returns-in-Ok-log_line-clause-err : goal.returns-in-Ok-log_line-clause-err
returns-in-Ok-log_line-clause-err c =
    no_index c.args.bytes.now _ c.args.recording.now c.in-Err.bad c.requires.decoded c.in-Err.ensures.refused c.in-Ok-log_line.ensures.fault c.in-Ok-log_line.ensures.line
