use Rattle.law_logs.proofs.laws.recording.run_logs_are_lawful.Goals as goal
use Rattle.law_logs.proofs.Recording.Whole.{logs_lawful}

pub returns : goal.returns
returns c = logs_lawful
