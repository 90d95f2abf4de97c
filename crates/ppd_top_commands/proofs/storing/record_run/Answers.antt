use Rattle.std.proofs.Common.{inr}
use Rattle.ppd_top_commands.proofs.StoredRuns.{of_some_run_by, was_recorded_by}
use Rattle.ppd_top_commands.proofs.storing.record_run.Goals as goal

pub store-status-requires-clause-of_run : goal.store-status-requires-clause-of_run
store-status-requires-clause-of_run g c κs within =
    of_some_run_by c.args.task.now.source.now c.args.task.now.task.program.now c.args.task.now.task.options c.in-Ok.by.schedule c.in-Ok.by.run c.requires.read c.in-Ok.ensures c.requires.range

pub returns : goal.returns
returns g c =
    inr (was_recorded_by c.args.task.now.source.now c.args.task.now.task.program.now c.args.task.now.task.options c.in-Ok.by.schedule c.in-Ok.by.run c.requires.read c.in-Ok.ensures c.args.task.now.recording.now _ _ c.store-status.result c.requires.program c.store-status.ensures)
