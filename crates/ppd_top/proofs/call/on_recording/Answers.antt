use Rattle.ppd_top.specs.declared.loads.TheConstants.{MOST_RECORDING}
use Rattle.std.proofs.Common.{Err, inl, refl, ap, ◌∙◌}
use Rattle.ppd_io.specs.Content.{Loads}
use Rattle.ppd_top.specs.Call.{call_of, devices}
use Rattle.ppd_top_commands.specs.Output.{standing}
use Rattle.ppd_top.specs.Ran.Comes.{debug_done}
use Rattle.ppd_top.proofs.Debugged.{debug_not_early}
use Rattle.ppd_top.proofs.Unloaded.{recording_unloaded, unloaded_not_early}
use Rattle.ppd_top.proofs.call.on_recording.Goals as goal

pub returns-in-Err-clause-comes : goal.returns-in-Err-clause-comes
returns-in-Err-clause-comes g c = λ words asks.
    recording_unloaded (call_of words (devices (g.F.Shelf.held c.args.shelf.now) (g.F.Shelf.failed_loads c.args.shelf.now) (g.F.Shelf.failed_stores c.args.shelf.now) (standing (g.I.Source.left c.args.input.now) (g.I.Source.before_last c.args.input.now) (g.I.Source.faults c.args.input.now) (g.O.Sink.written c.args.output.now) (g.O.Sink.faults c.args.output.now))) (devices (g.F.Shelf.held c.load.new.self) (g.F.Shelf.failed_loads c.load.new.self) (g.F.Shelf.failed_stores c.load.new.self) (standing (g.I.Source.left c.args.input.now) (g.I.Source.before_last c.args.input.now) (g.I.Source.faults c.args.input.now) (g.O.Sink.written c.args.output.now) (g.O.Sink.faults c.args.output.now))) c.unloaded.result.schedule c.unloaded.result.status) c.args.name.now (record { held = c.load.ensures.same; stores = c.load.ensures.stores })
    (record { no_run = c.unloaded.ensures.schedule; unread = record { left = refl; last = refl; reads = refl }; written = refl }) c.in-Err.error (inl asks) (λ e. c.load.ensures.failed (c.in-Err.is ∙ ap Err e)) c.unloaded.ensures.status

pub returns-in-Err-clause-status : goal.returns-in-Err-clause-status
returns-in-Err-clause-status g c = unloaded_not_early c.in-Err.error c.unloaded.result.status c.unloaded.ensures.status

pub returns-in-Ok-clause-comes : goal.returns-in-Ok-clause-comes
returns-in-Ok-clause-comes g c = λ words asks.
    let loads : Loads (g.F.Shelf.held c.args.shelf.now) c.args.name.now MOST_RECORDING c.deref.result.now = rw c.deref.ensures.value c.in-Ok.ensures.bytes in
    debug_done c.args.name.now c.deref.result.now asks loads (record { held = c.load.ensures.same; stores = c.load.ensures.stores }) c.new.ensures c.debug.ensures

pub returns-in-Ok-clause-status : goal.returns-in-Ok-clause-status
returns-in-Ok-clause-status g c = debug_not_early c.deref.result.now _ _ c.debug.result c.debug.ensures
