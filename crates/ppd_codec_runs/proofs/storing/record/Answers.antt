use Rattle.ppd_codec_runs.proofs.Runs.{run_lawful}
use Rattle.ppd_codec_runs.proofs.storing.record.Goals as goal

pub encode-requires : goal.encode-requires
encode-requires c = record { lawful = run_lawful c.args.source.now c.args.header.now c.args.logs.now c.requires.run }
