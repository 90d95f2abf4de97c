use Rattle.std.proofs.Common.{inr}
use Rattle.ppd_top_commands.proofs.Told.{was_told_by}
use Rattle.ppd_top_commands.proofs.answering.flow.Goals as goal

pub returns : goal.returns
returns g c =
    inr (was_told_by c.args.task.now.program.now c.args.task.now.options c.in-Ok.by.schedule c.in-Ok.by.run _ _ c.tell-status.result c.requires.program c.in-Ok.ensures c.tell-status.ensures)
