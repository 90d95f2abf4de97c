use Rattle.ppd_codec_runs.proofs.Same.{no_bytes}
use Rattle.ppd_codec_runs.proofs.recalling.decoded.Goals as goal

pub returns-in-Ok-bytes_line-clause-err : goal.returns-in-Ok-bytes_line-clause-err
returns-in-Ok-bytes_line-clause-err c =
    no_bytes c.args.bytes.now _ c.in-Err.bad c.in-Err.ensures.err c.in-Ok-bytes_line.ensures.fault c.in-Ok-bytes_line.ensures.line
