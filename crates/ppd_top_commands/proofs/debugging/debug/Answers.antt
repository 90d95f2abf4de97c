use Rattle.ppd_top_commands.specs.Debugging.Debugs.{recalled}
use Rattle.ppd_top_commands.proofs.debugging.debug.Goals as goal

pub returns-in-Err : goal.returns-in-Err
returns-in-Err g c = c.refuse.ensures c.args.bytes.now _ _ _ c.in-Err.ensures.err

pub returns-in-Ok : goal.returns-in-Ok
returns-in-Ok g c = recalled c.in-Ok.recalled.recording c.in-Ok.ensures.ok c.converse-status.ensures
