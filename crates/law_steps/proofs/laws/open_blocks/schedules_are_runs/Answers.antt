use Rattle.law_steps.proofs.OpenBlocks.Runs.{schedules_run}
use Rattle.law_steps.proofs.laws.open_blocks.schedules_are_runs.Goals as goal

pub returns : goal.returns
returns c = schedules_run
