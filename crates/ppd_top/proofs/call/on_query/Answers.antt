use Rattle.ppd_top.specs.declared.loads.TheConstants.{MOST_RECORDING}
use Rattle.std.proofs.Common.{Err, inr, refl, ap, ◌∙◌}
use Rattle.ppd_io.specs.Content.{Loads}
use Rattle.ppd_top_requests.specs.Questions.{query_of}
use Rattle.ppd_top.specs.Call.{call_of, devices}
use Rattle.ppd_top_commands.specs.Output.{standing}
use Rattle.ppd_top.specs.Ran.Comes.{query_done}
use Rattle.ppd_top.proofs.Unloaded.{recording_unloaded}
use Rattle.ppd_top.proofs.call.on_query.Goals as goal

pub returns-in-Err : goal.returns-in-Err
returns-in-Err g c = λ words left last reads asks.
    recording_unloaded (call_of words (devices (g.F.Shelf.held c.args.shelf.now) (g.F.Shelf.failed_loads c.args.shelf.now) (g.F.Shelf.failed_stores c.args.shelf.now) (standing left last reads (g.O.Sink.written c.args.output.now) (g.O.Sink.faults c.args.output.now))) (devices (g.F.Shelf.held c.load.new.self) (g.F.Shelf.failed_loads c.load.new.self) (g.F.Shelf.failed_stores c.load.new.self) (standing left last reads (g.O.Sink.written c.args.output.now) (g.O.Sink.faults c.args.output.now))) c.unloaded.result.schedule c.unloaded.result.status) c.args.name.now (record { held = c.load.ensures.same; stores = c.load.ensures.stores })
    (record { no_run = c.unloaded.ensures.schedule; unread = record { left = refl; last = refl; reads = refl }; written = refl }) c.in-Err.error (inr (query_of c.args.query.now, asks)) (λ e. c.load.ensures.failed (c.in-Err.is ∙ ap Err e)) c.unloaded.ensures.status

pub returns-in-Ok : goal.returns-in-Ok
returns-in-Ok g c = λ words left last reads asks.
    let loads : Loads (g.F.Shelf.held c.args.shelf.now) c.args.name.now MOST_RECORDING c.deref.result.now = rw c.deref.ensures.value c.in-Ok.ensures.bytes in
    query_done c.args.name.now (query_of c.args.query.now) c.deref.result.now asks loads (record { held = c.load.ensures.same; stores = c.load.ensures.stores }) (record { left = refl; last = refl; reads = refl }) c.tell_query.ensures
