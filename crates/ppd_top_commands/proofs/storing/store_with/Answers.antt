use Rattle.std.proofs.Common.{subst, sym}
use Rattle.ppd_codec.specs.Recordings.{IsRecordingOf}
use Rattle.ppd_top_commands.specs.Commands.Keeps.{kept}
use Rattle.ppd_top_commands.specs.Commands.{header_of as header_for}
use Rattle.ppd_top_commands.proofs.storing.store_with.Goals as goal

pub returns-in-Ok-store : goal.returns-in-Ok-store
returns-in-Ok-store g c =
    let logs = c.args.run.now.closed.logs in
    let source = c.args.task.now.source.now in
    let made : IsRecordingOf source (header_for c.args.task.now.task.options) logs c.as_slice.result.now =
    subst (IsRecordingOf source (header_for c.args.task.now.task.options) logs) (sym c.as_slice.ensures)
    (subst (λ h. IsRecordingOf source h logs c.in-Ok.recording) c.header_of-header.ensures c.in-Ok.ensures) in
    kept c.as_slice.result.now made c.in-Ok-store.ensures.bytes c.in-Ok-store.ensures.others c.finish.ensures.end
