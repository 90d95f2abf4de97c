use Rattle.ppd_codec_runs.proofs.Runs.{no_run_is_refused, runs_are_recalled}
use Rattle.ppd_codec_runs.proofs.laws.recalled_runs.Goals as goal

pub returns-clause-known : goal.returns-clause-known
returns-clause-known c = runs_are_recalled

pub returns-clause-accepted : goal.returns-clause-accepted
returns-clause-accepted c = no_run_is_refused
